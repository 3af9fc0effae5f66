use Rattle.std.proofs.Common.{◌≡◌, drop}
use Rattle.mem_paged.specs.Pages.{right_at}
use Rattle.mem_paged.proofs.page_rights.first_right.Given as goal

-- the spans that are left decide
abbrev pub invariant-spans : goal.invariant-spans
invariant-spans l = right_at (drop l.span-index l.spans) l.at ≡ right_at l.spans l.at
