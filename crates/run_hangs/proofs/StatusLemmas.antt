-- No other status has the number of a hang.
use Rattle.std.proofs.Common.{◌≡◌}
use Rattle.byte_io.specs.declared.status.Status.{Status}
use Rattle.byte_io.specs.declared.status.Status.TheVariants.{Done, Refused, BadLine, Faulted, Broken, NoMemory, Undecided}
use Rattle.run_hangs.specs.Status.{run_code}
use Rattle.run_hangs.specs.declared.status.RunStatus.TheVariants.{Hangs, Of}

pub own_code : (status : Status) → run_code (Of status) ≡ run_code Hangs → ⊥
own_code Done e = absurd (cc)
own_code Refused e = absurd (cc)
own_code BadLine e = absurd (cc)
own_code Faulted e = absurd (cc)
own_code Broken e = absurd (cc)
own_code NoMemory e = absurd (cc)
own_code Undecided e = absurd (cc)
