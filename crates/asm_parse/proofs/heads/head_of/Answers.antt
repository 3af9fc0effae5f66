use Rattle.std.proofs.Common.{◌∙◌, ℕ, Bool, not, ◌&&◌, arith}
use Rattle.std.specs.Prelude.{◌==◌}
use Rattle.asm_statement.specs.Heads.{head_of, head_names}
use Rattle.asm_parse.proofs.Beginnings.{kept, found_among, found_with}
use Rattle.asm_parse.proofs.heads.head_of.Goals as goal

abbrev is_other : ℕ → Bool
is_other n = not (n == 97) && (not (n == 98) && (not (n == 108) && (not (n == 115) && not (n == 46))))

pub returns-in-97 : goal.returns-in-97
unfolding head_of kept
returns-in-97 c = c.find.ensures ∙ found_with 97 c.first_of.result head_names c.args.name.now c.in-97.is c.first_of.ensures

pub returns-in-98 : goal.returns-in-98
unfolding head_of kept
returns-in-98 c = c.find-in-98.ensures ∙ found_with 98 c.first_of.result head_names c.args.name.now c.in-98.is c.first_of.ensures

pub returns-in-108 : goal.returns-in-108
unfolding head_of kept
returns-in-108 c = c.find-in-108.ensures ∙ found_with 108 c.first_of.result head_names c.args.name.now c.in-108.is c.first_of.ensures

pub returns-in-115 : goal.returns-in-115
unfolding head_of kept
returns-in-115 c = c.find-in-115.ensures ∙ found_with 115 c.first_of.result head_names c.args.name.now c.in-115.is c.first_of.ensures

pub returns-in-46 : goal.returns-in-46
unfolding head_of kept
returns-in-46 c = c.find-in-46.ensures ∙ found_with 46 c.first_of.result head_names c.args.name.now c.in-46.is c.first_of.ensures

pub returns-in_default : goal.returns-in_default
unfolding head_of kept
returns-in_default c =
    c.find-in_default.ensures ∙ found_among is_other head_names c.args.name.now (grind (arith, c.in_default, c.first_of.ensures))
