-- What the call is handed and what it leaves, by name: its contract's arguments, once, as the toolchain reads them off the source (a lent run is a `RefT`, whose list is `now` of it).
use Rattle.std.specs.Prelude.{ℕ, List, ℤ}
use contract.Lifetimes.{Lfts}
use Rattle.std.specs.Borrow.{Bor, MutBor}
use Rattle.hour.specs.declared.Terms.{Terms}
use Rattle.sreg.specs.declared.EventState.{EventState}
use Rattle.sreg_hour.specs.Hour.{SRegHour, sreg_hour}

abbrev pub SRegArguments : Type 0
SRegArguments = Bor (List ℤ) × (Bor (List ℤ) × (Terms × (Bor (List ℤ) × (Bor (List ℤ) × (Bor (List ℕ) × (EventState × (MutBor (List ℕ) × Unit {0})))))))

-- the hour, and the run of scores, of what is handed in and of what is left
abbrev pub sreg_handed : Lfts 6 → SRegArguments → SRegHour
sreg_handed κs (powers, (frequencies, (terms, (thresholds, (factors, (earlier, (state, (scores, end)))))))) =
    sreg_hour powers.now frequencies.now terms thresholds.now factors.now earlier.now state

abbrev pub sreg_run : Lfts 6 → SRegArguments → List ℕ
sreg_run κs (powers, (frequencies, (terms, (thresholds, (factors, (earlier, (state, (scores, end)))))))) = scores.now
