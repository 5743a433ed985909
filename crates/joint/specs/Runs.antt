-- "any run of posts, by hand or by the joint call": what demand 3 says of a ledger that joint calls post to. The ledger is given by its contracts, and the
-- hours worked out are any.
use Rattle.std.specs.Prelude.{ℕ, ◌≡◌, Bool, true, List, [], ◌∷◌, eqb, ℤ}
use Rattle.whole.specs.Choice.{pick, in_order}
use Rattle.history.specs.Rules.{Call}
use Rattle.history.specs.History.{Recorded}
use Rattle.history.specs.Demand.{Ledger}
use Rattle.head.specs.Rules.{Fee, Item, amount_item}
use Rattle.month.specs.declared.Month.{Month}
use Rattle.hour.specs.declared.Settlement.{Settlement}
use Rattle.joint.specs.Joint.{refused_beside, post_tests, posted_of}
use Rattle.joint.specs.declared.Joined.{Joined}

-- a joint call, whatever it settles: it works an hour out and answers what that hour is, posted
abbrev pub JointCalled : Settlement → Month → ℕ → ℕ → Joined → Type 0
JointCalled worked m d x answer = answer ≡ posted_of worked m d x

-- the number that keeps the hour from the ledger: its own, or 16
abbrev pub kept_from : Settlement → ℕ
kept_from worked = in_order (post_tests worked)

-- what happened in a run, newest first
pub data Event : Type 0 where
  -- a call on the ledger and the number that it was answered: by hand, or the post of an accepted hour by the joint call
  made : Recorded Fee Item → Event
  -- a joint call whose hour was kept from the ledger: the month that was handed in, the number that kept it, and the answer
  turned : Month → ℕ → Joined → Event

-- the ledger's history is told by the calls on it alone
abbrev pub calls_of : List Event → List (Recorded Fee Item)
calls_of [] = []
calls_of (made e ∷ es) = e ∷ calls_of es
calls_of (turned m k answer ∷ es) = calls_of es

-- each joint call whose hour was kept from the ledger was answered the number that kept it only, the hour's own or 16, which is not 0, with the month that was handed in
abbrev pub TurnedAway : List Event → Type 0
TurnedAway [] = Unit {0}
TurnedAway (made e ∷ es) = TurnedAway es
TurnedAway (turned m k answer ∷ es) = (k ≡ 0 → ⊥) × (answer ≡ refused_beside m k) × TurnedAway es

abbrev pub post_of : Settlement → ℕ → ℕ → Call Fee Item
post_of worked d x = Call.post d x (amount_item worked.amount.0)

-- a run of such calls from a month that the ledger opened, each given the ledger that the one before handed back
pub data JointRun (L : Ledger ℕ Fee Bool ℤ Month) (days : ℕ) : List Event → Month → Type 0 where
  opens : (m : Month) → L.Opens days m → JointRun L days [] m
  by_hand : (es : List Event) (m : Month) (c : Call Fee Item) (k : ℕ) (n : Month) → JointRun L days es m → L.Answers m c k n
      → JointRun L days (made (record { call = c; answer = k }) ∷ es) n
  -- the hour is accepted and its amount in the ledger's range: a post of it
  by_joint : (es : List Event) (worked : Settlement) (m : Month) (d x : ℕ) (j : Joined) → JointRun L days es m → JointCalled worked m d x j → kept_from worked ≡ 0
      → JointRun L days (made (record { call = post_of worked d x; answer = j.hour.refusal }) ∷ es) j.month
  -- the hour is kept from it: no post
  by_refused : (es : List Event) (worked : Settlement) (m : Month) (d x : ℕ) (j : Joined) → JointRun L days es m → JointCalled worked m d x j → (kept_from worked ≡ 0 → ⊥)
      → JointRun L days (turned m (kept_from worked) j ∷ es) j.month

-- ---- hours worked out, each with the day and the hour to post it on

pub record WorkedHour : Type 0 where
  pub worked : Settlement
  pub day : ℕ
  pub hour : ℕ

abbrev pub joint_answer : WorkedHour → Month → Joined
joint_answer a m = posted_of a.worked m a.day a.hour

abbrev pub event_of : WorkedHour → Month → Event
event_of a m =
    pick (eqb (kept_from a.worked) 0)
    (made (record { call = post_of a.worked a.day a.hour; answer = (joint_answer a m).hour.refusal }))
    (turned m (kept_from a.worked) (joint_answer a m))

-- each is given the month that the one before handed back, newest first
abbrev pub month_after : Month → List WorkedHour → Month
month_after m [] = m
month_after m (a ∷ before) = (joint_answer a (month_after m before)).month

abbrev pub events_after : Month → List WorkedHour → List Event
events_after m [] = []
events_after m (a ∷ before) = event_of a (month_after m before) ∷ events_after m before
