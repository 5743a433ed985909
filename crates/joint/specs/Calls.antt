-- What a joint call is handed, by name: its contract's arguments, once each.
use Rattle.std.specs.Prelude.{ℕ, List, ℤ}
use Rattle.std.specs.Borrow.{Bor}
use Rattle.units.specs.declared.Millihertz.{Millihertz}
use Rattle.month.specs.declared.Month.{Month}
use Rattle.hour.specs.Hour.{WholeHour, edreg_hour}
use Rattle.hour.specs.declared.Terms.{Terms}
use Rattle.hour.specs.declared.Shift.{Shift}
use Rattle.sreg.specs.declared.EventState.{EventState}
use Rattle.sreg_hour.specs.Hour.{SRegHour, sreg_hour}

-- the arguments in their order: powers, frequencies, terms, reference, shift, thresholds, factors and earlier scores; month, day and hour
abbrev pub JointGiven : Type 0
JointGiven = Bor (List ℤ) × (Bor (List ℤ) × (Terms × (Millihertz × (Shift × (Bor (List ℤ) × (Bor (List ℤ) × (Bor (List ℕ) × (Month × (ℕ × (ℕ × Unit {0}))))))))))

-- the hour to work out, and the month, the day and the hour to post it on
abbrev pub joint_handed : JointGiven → WholeHour
joint_handed b =
    edreg_hour b.0.now b.1.0.now b.1.1.0 b.1.1.1.0 b.1.1.1.1.0 b.1.1.1.1.1.0.now b.1.1.1.1.1.1.0.now b.1.1.1.1.1.1.1.0.now

abbrev pub month_given : JointGiven → Month
month_given b = b.1.1.1.1.1.1.1.1.0

abbrev pub day_given : JointGiven → ℕ
day_given b = b.1.1.1.1.1.1.1.1.1.0

abbrev pub hour_given : JointGiven → ℕ
hour_given b = b.1.1.1.1.1.1.1.1.1.1.0

-- `sreg_joint`: powers, frequencies, terms, thresholds, factors, earlier scores and state; month, day and hour
abbrev pub SRegJointGiven : Type 0
SRegJointGiven = Bor (List ℤ) × (Bor (List ℤ) × (Terms × (Bor (List ℤ) × (Bor (List ℤ) × (Bor (List ℕ) × (EventState × (Month × (ℕ × (ℕ × Unit {0})))))))))

abbrev pub sreg_given : SRegJointGiven → SRegHour
sreg_given b = sreg_hour b.0.now b.1.0.now b.1.1.0 b.1.1.1.0.now b.1.1.1.1.0.now b.1.1.1.1.1.0.now b.1.1.1.1.1.1.0

abbrev pub sreg_month_given : SRegJointGiven → Month
sreg_month_given b = b.1.1.1.1.1.1.1.0

abbrev pub sreg_day_given : SRegJointGiven → ℕ
sreg_day_given b = b.1.1.1.1.1.1.1.1.0

abbrev pub sreg_hour_given : SRegJointGiven → ℕ
sreg_hour_given b = b.1.1.1.1.1.1.1.1.1.0
