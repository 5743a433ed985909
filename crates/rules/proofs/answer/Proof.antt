-- `rules::answer` meets its contract: by the rule that is asked. Assumes nothing.
use borrow.Author.Rules.{rules}
use Rattle.rules.proofs.answer.Statement.{statement}
use Rattle.rules.proofs.answer.Tie as tie

enum_told : tie.Need-enum_told-1
enum_told c = search rules

kilowatts_requires : tie.Need-kilowatts-requires
kilowatts_requires c κs = search rules

enum_told_2 : tie.Need-enum_told-in-Curve
enum_told_2 c = search rules

curve_requires : tie.Need-curve-requires
curve_requires c κs = search rules

enum_told_3 : tie.Need-enum_told-in-Score
enum_told_3 c = search rules

score_requires : tie.Need-score-requires
score_requires c κs = search rules

enum_told_4 : tie.Need-enum_told-in-Rate
enum_told_4 c = search rules

rate_requires : tie.Need-rate-requires
rate_requires c κs = search rules

enum_told_5 : tie.Need-enum_told-in-Reached
enum_told_5 c = search rules

reached_requires : tie.Need-reached-requires
reached_requires c κs = search rules

enum_told_6 : tie.Need-enum_told-in-Bands
enum_told_6 c = search rules

bands_requires : tie.Need-bands-requires
bands_requires c κs = search rules

enum_told_7 : tie.Need-enum_told-in-Factor
enum_told_7 c = search rules

factor_requires : tie.Need-factor-requires
factor_requires c κs = search rules

enum_told_8 : tie.Need-enum_told-in-Fee
enum_told_8 c = search rules

fee_requires : tie.Need-fee-requires
fee_requires c κs = search rules

enum_told_9 : tie.Need-enum_told-in-Quality
enum_told_9 c = search rules

quality_requires : tie.Need-quality-requires
quality_requires c κs = search rules

enum_told_10 : tie.Need-enum_told-in-Energy
enum_told_10 c = search rules

energy_requires : tie.Need-energy-requires
energy_requires c κs = search rules

enum_told_11 : tie.Need-enum_told-in-Loss
enum_told_11 c = search rules

loss_requires : tie.Need-loss-requires
loss_requires c κs = search rules

enum_told_12 : tie.Need-enum_told-in-Pair
enum_told_12 c = search rules

pair_requires : tie.Need-pair-requires
pair_requires c κs = search rules

returns : tie.Need-returns-in-Kilowatts
returns c = rw c.in-Kilowatts.is c.kilowatts.ensures

returns_2 : tie.Need-returns-in-Curve
returns_2 c = rw c.in-Curve.is c.curve.ensures

returns_3 : tie.Need-returns-in-Score
returns_3 c = rw c.in-Score.is c.score.ensures

returns_4 : tie.Need-returns-in-Rate
returns_4 c = rw c.in-Rate.is c.rate.ensures

returns_5 : tie.Need-returns-in-Reached
returns_5 c = rw c.in-Reached.is c.reached.ensures

returns_6 : tie.Need-returns-in-Bands
returns_6 c = rw c.in-Bands.is c.bands.ensures

returns_7 : tie.Need-returns-in-Factor
returns_7 c = rw c.in-Factor.is c.factor.ensures

returns_8 : tie.Need-returns-in-Fee
returns_8 c = rw c.in-Fee.is c.fee.ensures

returns_9 : tie.Need-returns-in-Quality
returns_9 c = rw c.in-Quality.is c.quality.ensures

returns_10 : tie.Need-returns-in-Energy
returns_10 c = rw c.in-Energy.is c.energy.ensures

returns_11 : tie.Need-returns-in-Loss
returns_11 c = rw c.in-Loss.is c.loss.ensures

returns_12 : tie.Need-returns-in-Pair
returns_12 c = rw c.in-Pair.is c.pair.ensures

pub answer_spec : {M : Type 1} → statement M
answer_spec =
    tie.close
    (tie.spec
    enum_told
    kilowatts_requires
    enum_told_2
    curve_requires
    enum_told_3
    score_requires
    enum_told_4
    rate_requires
    enum_told_5
    reached_requires
    enum_told_6
    bands_requires
    enum_told_7
    factor_requires
    enum_told_8
    fee_requires
    enum_told_9
    quality_requires
    enum_told_10
    energy_requires
    enum_told_11
    loss_requires
    enum_told_12
    pair_requires
    returns
    returns_2
    returns_3
    returns_4
    returns_5
    returns_6
    returns_7
    returns_8
    returns_9
    returns_10
    returns_11
    returns_12)
