use Rattle.std.proofs.Common.{rules, ◌≡◌, ◌++◌, [], ◌∷◌, arith}
use Rattle.elf_read.specs.Section.{section_at}
use Rattle.elf_read.proofs.SectionLemmas.{sections_more, sections_done}
use Rattle.elf_read.proofs.section.read_sections.Goals as goal

pub sections-preserved : goal.sections-preserved
sections-preserved g c =
    let pushed : c.push.new.self.items ≡ c.sections.sections.items ++ section_at c.args.bytes.now c.sections.at ∷ [] = search rules in
    (omega arith, sections_more _ _ _ _ _ _ _ (omega arith) pushed c.sections.invariant.1)

pub returns : goal.returns
returns g c = sections_done _ _ _ _ _ _ (omega arith) c.sections.invariant.1
