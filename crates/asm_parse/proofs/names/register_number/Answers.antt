use Rattle.std.proofs.Common.{◌∙◌, ℕ, Bool, not, ◌&&◌, arith}
use Rattle.std.specs.Prelude.{◌==◌}
use Rattle.asm_statement.specs.Names.{register_number, register_names}
use Rattle.asm_parse.proofs.Beginnings.{kept, found_among, found_with}
use Rattle.asm_parse.proofs.names.register_number.Goals as goal

abbrev is_other : ℕ → Bool
is_other n = not (n == 97) && (not (n == 115) && (not (n == 116) && not (n == 120)))

pub returns-in-97 : goal.returns-in-97
unfolding register_number kept
returns-in-97 c = c.find.ensures ∙ found_with 97 c.first_of.result register_names c.args.name.now c.in-97.is c.first_of.ensures

pub returns-in-115 : goal.returns-in-115
unfolding register_number kept
returns-in-115 c = c.find-in-115.ensures ∙ found_with 115 c.first_of.result register_names c.args.name.now c.in-115.is c.first_of.ensures

pub returns-in-116 : goal.returns-in-116
unfolding register_number kept
returns-in-116 c = c.find-in-116.ensures ∙ found_with 116 c.first_of.result register_names c.args.name.now c.in-116.is c.first_of.ensures

pub returns-in-120 : goal.returns-in-120
unfolding register_number kept
returns-in-120 c = c.find-in-120.ensures ∙ found_with 120 c.first_of.result register_names c.args.name.now c.in-120.is c.first_of.ensures

pub returns-in_default : goal.returns-in_default
unfolding register_number kept
returns-in_default c =
    c.find-in_default.ensures ∙ found_among is_other register_names c.args.name.now (grind (arith, c.in_default, c.first_of.ensures))
