-- What the two calls are handed and what they leave, by name: their contracts' arguments, once, as the toolchain reads them off the source (a lent run is a
-- `RefT`, whose list is `now` of it).
use Rattle.std.specs.Prelude.{ℕ, List, ℤ}
use contract.Lifetimes.{Lfts}
use Rattle.std.specs.Borrow.{Bor, MutBor}
use Rattle.units.specs.declared.Millihertz.{Millihertz}
use Rattle.hour.specs.Hour.{WholeHour, dreg_hour, edreg_hour}
use Rattle.hour.specs.declared.Terms.{Terms}
use Rattle.hour.specs.declared.Shift.{Shift}

-- `hour`: the hour, and the run of scores, of what is handed in and of what is left
abbrev pub HourArguments : Type 0
HourArguments = Bor (List ℤ) × (Bor (List ℤ) × (Terms × (Millihertz × (Shift × (Bor (List ℤ) × (Bor (List ℤ) × (Bor (List ℕ) × (MutBor (List ℕ) × Unit {0}))))))))

abbrev pub hour_handed : Lfts 6 → HourArguments → WholeHour
hour_handed κs (powers, (frequencies, (terms, (reference, (shift, (thresholds, (factors, (earlier, (scores, end))))))))) =
    edreg_hour powers.now frequencies.now terms reference shift thresholds.now factors.now earlier.now

abbrev pub hour_run : Lfts 6 → HourArguments → List ℕ
hour_run κs (powers, (frequencies, (terms, (reference, (shift, (thresholds, (factors, (earlier, (scores, end))))))))) = scores.now

-- `dreg_hour`
abbrev pub DRegArguments : Type 0
DRegArguments = Bor (List ℤ) × (Bor (List ℤ) × (Terms × (Millihertz × (Bor (List ℤ) × (Bor (List ℤ) × (Bor (List ℕ) × (MutBor (List ℕ) × Unit {0})))))))

abbrev pub dreg_handed : Lfts 6 → DRegArguments → WholeHour
dreg_handed κs (powers, (frequencies, (terms, (reference, (thresholds, (factors, (earlier, (scores, end)))))))) = dreg_hour powers.now frequencies.now terms reference thresholds.now factors.now earlier.now

abbrev pub dreg_run : Lfts 6 → DRegArguments → List ℕ
dreg_run κs (powers, (frequencies, (terms, (reference, (thresholds, (factors, (earlier, (scores, end)))))))) = scores.now
