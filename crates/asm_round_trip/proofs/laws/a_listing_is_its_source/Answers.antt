use Rattle.asm_round_trip.proofs.Whole.{comes_back}
use Rattle.asm_round_trip.proofs.laws.a_listing_is_its_source.Goals as goal

pub returns : goal.returns
returns c = comes_back
