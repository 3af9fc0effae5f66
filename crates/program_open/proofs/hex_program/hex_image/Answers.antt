use Rattle.std.proofs.Common.{◌≡◌, ◌∷◌, [], Ok, ap, sym, rules, ◌∙◌}
use Rattle.std.proofs.lemmas.Grind.{common_steps}
use Rattle.image.specs.Image.{image_or_fault}
use Rattle.program_open.specs.HexImage.{hex_segment, hex_image_of}
use Rattle.program_open.specs.HexImage.{hex_base}
use Rattle.program_open.proofs.HexImageLemmas.{hex_image_is}
use Rattle.program_open.proofs.hex_program.hex_image.Goals as goal

pub returns-in-Ok : goal.returns-in-Ok
returns-in-Ok g c =
    let segments : c.push.new.self.items ≡ hex_segment c.args.words.now ∷ [] = search (rules, common_steps) in
    let same : Ok c.in-Ok.image ≡ Ok (hex_image_of c.args.words.now)
    = sym c.in-Ok.ensures ∙ ap (image_or_fault hex_base) segments ∙ hex_image_is c.args.words.now c.requires in
    cc
