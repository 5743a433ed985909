-- The questions that print a run: a quarter's powers, an hour's scores (docs/DESK.md, "Questions").
use Rattle.std.specs.Prelude.{List, [], ℤ}
use Rattle.whole.specs.Choice.{kept}
use Rattle.units.specs.Limits.{seconds_of_quarter}
use Rattle.units.specs.Units.{kilowatts}
use Rattle.ramp.specs.Ramp.{ramp_of, ramp_refusal}
use Rattle.numbers.specs.Numbers.{number}
use Rattle.words.specs.Replies.{Reply, reply}
use Rattle.words.specs.declared.Hour.TheVariants.{Dreg, Edreg, Sreg}
use Rattle.words.specs.declared.Series.{Series}
use Rattle.words.specs.declared.Series.TheVariants.{Ramp, DregScores, EdregScores, SregScores}
use Rattle.hours.specs.Hours.{HourNumbers, scores_reply}

-- LAST TARGET: 0 and the 900 seconds' powers; or the refusal alone
unfoldable pub ramp_reply : List ℤ → Reply
ramp_reply n =
    let k = ramp_refusal (kilowatts (number n 0)) (kilowatts (number n 1)) seconds_of_quarter in
    reply k (kept k (ramp_of (number n 0) (number n 1)) [])

-- the answer to a run's question, by its single numbers, and by those of its hour
abbrev pub series_reply : Series → List ℤ → HourNumbers → Reply
series_reply Ramp n given = ramp_reply n
series_reply DregScores n given = scores_reply Dreg given
series_reply EdregScores n given = scores_reply Edreg given
series_reply SregScores n given = scores_reply Sreg given
