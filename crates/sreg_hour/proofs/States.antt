-- THE STATES THAT AN HOUR CAN END IN (document 02, #103): the test of a state passes just where some accepted hour that begins outside ends in it; and every answer's state, a refusal's too, may be
-- handed on. By the runs of seconds of crate events. Assumes nothing.
use Prim.Native.Nat.{ℕ}
use mathlib.Core.Path.{◌≡◌, refl, ap, ◌∙◌}
use mathlib.Core.Bool.{true}
use mathlib.Core.List.{[], ◌∷◌}
use lib.IntN.{pos}
use contract.Lifetimes.{Lfts}
use borrow.Fn.Kinds.{Dens, ended_of}
use denote.Triple.Clauses.{AtExit}
use Rattle.whole.specs.Folds.{fold_to}
use Rattle.whole.specs.Whole.{in_range, all_in_range}
use Rattle.whole.proofs.Choice.{and_both, both, kept_any}
use Rattle.units.specs.Limits.{are_powers, are_frequencies, seconds_of_hour}
use Rattle.units.specs.Units.{kilowatts}
use Rattle.bands.specs.Bands.{bands_fit, fall}
use Rattle.rate.specs.Rolling.{are_scores}
use Rattle.hour.specs.declared.Terms.{Terms}
use Rattle.sreg.specs.Second.{is_state}
use Rattle.sreg.specs.declared.EventState.{EventState}
use Rattle.sreg.specs.declared.EventState.TheVariants.{Outside}
use Rattle.events.proofs.Reach.{run_to, after_passes}
use Rattle.sreg_hour.specs.Hour.{SRegHour, sreg_hour, sreg_refusal, sreg_state, sreg_answer}
use Rattle.sreg_hour.specs.Accepted.{SRegFits}
use Rattle.sreg_hour.specs.Hours.{HourEnds}
use Rattle.sreg_hour.specs.Calls.{sreg_handed}
use Rattle.sreg_hour.specs.declared.Settled.{Settled}
use Rattle.sreg_hour.proofs.Laws.{fit, fit_none, refusal_is, granted}
use Rattle.sreg_hour.proofs.sreg_hour.Reads as sreg_hour_reads
use Rattle.sreg_hour.proofs.sreg_hour.Kinds as sreg_hour_kinds

-- whatever was handed in
pub answer_passes : (h : SRegHour) (places : ℕ) → is_state (sreg_answer h places).state ≡ true
unfolding sreg_answer sreg_state
answer_passes h places =
    kept_any (λ (r : Settled). is_state r.state ≡ true) (sreg_refusal h places)
    (λ e.
    let f = fit h places e in
    after_passes h.state h.powers h.frequencies f.state (and_both (are_powers h.powers) (are_frequencies h.frequencies) f.readings).0)
    refl

-- an hour of the least capacity, paid nothing
least : Terms
least = record { capacity = kilowatts (pos 1); clearing = pos 0; performance = pos 0 }

pub passing_ends : (state : EventState) → is_state state ≡ true → HourEnds state
unfolding in_range all_in_range fold_to are_scores bands_fit fall sreg_state least
passing_ends state t =
    let r = run_to seconds_of_hour state refl t in
    let h = sreg_hour r.powers r.frequencies least (pos 0 ∷ []) (pos 10 ∷ []) [] Outside in
    let f : SRegFits h seconds_of_hour = record {
      lengths = rw (r.long_powers, r.long_frequencies);
      capacity = refl;
      prices = refl;
      bands = refl;
      before = refl;
      state = refl;
      readings = both r.fit_powers r.fit_frequencies;
    } in
    let none = fit_none h seconds_of_hour f in
    record {
      hour = h;
      begins = refl;
      accepted = refusal_is h seconds_of_hour ∙ none;
      ends = ap (λ (x : Settled). x.state) (granted h seconds_of_hour none) ∙ r.ends_in_lem;
    }

pub ends_passing : (state : EventState) → HourEnds state → is_state state ≡ true
ends_passing state e = rw e.ends at (answer_passes e.hour seconds_of_hour)

-- over the contract: the state of any answer passes
pub sreg_hour_hands_on : (κs : Lfts 6) (a : Dens κs sreg_hour_kinds.ps) (r : Settled) (s : AtExit (ended_of 6 sreg_hour_kinds.ps sreg_hour_kinds.r) κs) → sreg_hour_reads.Post κs a r s
    → is_state r.state ≡ true
sreg_hour_hands_on κs a r s met = rw met.0 (answer_passes (sreg_handed κs a) _)
