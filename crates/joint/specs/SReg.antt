-- What the theorems of sReg's joint call (proofs/SReg.antt) are stated in.
use Rattle.sreg_hour.specs.declared.Settled.{Settled}
use Rattle.joint.specs.declared.StateJoined.{StateJoined}

-- the hour and the state of an answer, as `sreg_hour` answers them
abbrev pub settled_in : StateJoined → Settled
settled_in j = record { hour = j.joined.hour; state = j.state }
