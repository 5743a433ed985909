-- Over any number, so that no list is written out.
use Rattle.std.proofs.Common.{ℕ, ℤ, pos, ◌≡◌, sym, length, replicate}
use Rattle.std.proofs.lemmas.List.{length-replicate}
use Rattle.desk.proofs.numbers.Goals as goal

long : (n : ℕ) → n ≡ length {A = ℤ} (replicate n (pos 0))
long n = sym (length-replicate n (pos 0))

pub returns : goal.returns
returns c = long 8192
