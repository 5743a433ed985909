-- The joint call (document 01, "The ledger": "one joint call that works an hour out and posts it"): the hour's refusal, 16, the ledger's.
use Rattle.std.specs.Prelude.{ℕ, ◌≡◌, Bool, List, [], ◌∷◌, ◌++◌, length}
use Rattle.whole.specs.Choice.{in_order, kept}
use Rattle.units.specs.Refusals.{bad_amount, told_number}
use Rattle.units.specs.Limits.{is_amount, seconds_of_hour}
use Rattle.history.specs.Rules.{Call, own}
use Rattle.head.specs.Rules.{amount_item}
use Rattle.head.specs.Inner.{standing_after}
use Rattle.month.specs.Month.{month_answer}
use Rattle.month.specs.declared.Month.{Month}
use Rattle.hour.specs.Hour.{WholeHour, hour_answer, refused_hour}
use Rattle.hour.specs.declared.Settlement.{Settlement}
use Rattle.sreg.specs.declared.EventState.{EventState}
use Rattle.sreg.specs.declared.EventState.TheVariants.{Outside}
use Rattle.sreg_hour.specs.Hour.{SRegHour, sreg_answer}
use Rattle.sreg_hour.specs.declared.Settled.{Settled}
use Rattle.joint.specs.declared.Joined.{Joined}
use Rattle.joint.specs.declared.StateJoined.{StateJoined}

-- a refusal has its number alone, beside the ledger that was handed in
abbrev pub refused_beside : Month → ℕ → Joined
refused_beside month k = record { hour = refused_hour k; month = month }

unfoldable pub joined : ℕ → Settlement → Month → Month → Joined
joined k hour next month = kept k (record { hour = hour; month = next }) (refused_beside month k)

-- what keeps an hour from the ledger: its own number, 16
abbrev pub post_tests : Settlement → List (Bool × ℕ)
post_tests worked = own worked.refusal ∷ (is_amount worked.amount.0, bad_amount) ∷ []

-- the hour's own number, 16, the ledger's own
abbrev pub joint_refusal : Settlement → ℕ → ℕ
joint_refusal worked ledger = in_order (post_tests worked ++ own ledger ∷ [])

-- the amount of an hour, posted
unfoldable pub posted_of : Settlement → Month → ℕ → ℕ → Joined
posted_of worked month day hour =
    let booked = month_answer month (Call.post day hour (amount_item worked.amount.0)) in
    joined (joint_refusal worked (told_number booked))
    worked (standing_after month booked) month

-- "the joint call gives the same numbers and takes no such run"
abbrev pub worked_by : WholeHour → Settlement
worked_by h = hour_answer h seconds_of_hour

unfoldable pub joint_of : WholeHour → Month → ℕ → ℕ → Joined
joint_of h month day hour = posted_of (worked_by h) month day hour

-- of an sReg hour (document 02, #103): the state that it ends in, `Outside` beside any refusal, "the ledger's included"
unfoldable pub beside_state : Joined → EventState → StateJoined
beside_state joined after = record { joined = joined; state = kept joined.hour.refusal after Outside }

abbrev pub sreg_worked_by : SRegHour → Settled
sreg_worked_by h = sreg_answer h seconds_of_hour

unfoldable pub sreg_joint_of : SRegHour → Month → ℕ → ℕ → StateJoined
sreg_joint_of h month day hour = let worked = sreg_worked_by h in beside_state (posted_of worked.hour month day hour) worked.state

-- a call of `hour`, or of `sreg_hour`, on h, with a lent run of 3,600 scores, and a joint call on the same hour
pub record SameHour {H : Type 0} (h : H) (scores : List ℕ) (g : H) : Type 0 where
  pub hour : h ≡ g
  pub run : length scores ≡ seconds_of_hour
