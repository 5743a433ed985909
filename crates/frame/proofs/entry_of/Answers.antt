-- `frame::entry_of` meets its contract: the amount is spelled by the fourth byte and the seven after it.
use Rattle.std.proofs.Common.{rules, ◌≡◌, ◌∙◌, ap, length, take, drop}
use Rattle.std.specs.Int.{from_be_bytes}
use mir.Syntax.{w64}
use mir.Val.{to_z, of_z}
use Rattle.frame.specs.Frame.{entry_of}
use Rattle.frame.proofs.Numbers.{eight_read}
use Rattle.frame.proofs.entry_of.Goals as goal

pub returns : goal.returns
unfolding entry_of
returns c =
    let amount = take 8 (drop 3 c.args.bytes.now) in
    let read = c.from_be_bytes.result in
    let bits : to_z w64 (of_z w64 read) ≡ read = search rules in
    let eight : length amount ≡ 8 = search rules in
    let copied : c.copy_from_slice.new.self ≡ amount = search rules in
    rw (bits ∙ c.from_be_bytes.ensures ∙ ap (λ bs. to_z w64 (from_be_bytes w64 bs)) copied ∙ eight_read amount eight)
