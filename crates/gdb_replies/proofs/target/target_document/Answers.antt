use Rattle.std.proofs.Common.{refl}
use Rattle.std.specs.Fmt.{digits}
use Rattle.gdb_replies.specs.Target.{target_text}
use Rattle.gdb_replies.proofs.target.target_document.Goals as goal

pub returns : goal.returns
unfolding target_text digits
returns c = refl
