use Rattle.std.proofs.Common.{rules, ◌≡◌, ◌++◌, [], ◌∷◌, arith}
use Rattle.elf_read.specs.ProgramHeader.{program_header_at}
use Rattle.elf_read.proofs.HeaderLemmas.{headers_more, headers_done}
use Rattle.elf_read.proofs.program_header.read_program_headers.Goals as goal

pub headers-preserved : goal.headers-preserved
headers-preserved g c =
    let pushed : c.push.new.self.items ≡ c.headers.headers.items ++ program_header_at c.args.bytes.now c.headers.at ∷ [] = search rules in
    (omega arith, headers_more _ _ _ _ _ _ _ (omega arith) pushed c.headers.invariant.1)

pub returns : goal.returns
returns g c = headers_done _ _ _ _ _ _ (omega arith) c.headers.invariant.1
