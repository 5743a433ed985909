-- What only mirrors the code: an answer of few fields in an array of twelve.
use Rattle.std.specs.Prelude.{◌++◌, pos, length, take, replicate}
use Rattle.words.specs.Replies.{Reply, reply}
use Rattle.words.specs.declared.Few.{Few}

-- an answer of at most 12 fields, zeros after them
abbrev pub boxed : Reply → Few
boxed r = record { refusal = r.refusal; count = length r.fields; values = take 12 (r.fields ++ replicate 12 (pos 0)) }

abbrev pub unboxed : Few → Reply
unboxed f = reply f.refusal (take f.count f.values)
