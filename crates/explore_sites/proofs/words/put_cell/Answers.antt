use Rattle.std.proofs.Common.{◌≡◌, ◌≢◌, ◌<◌, ◌≤◌, ℕ, refl, subst, length, ap, ◌∙◌, Some, List}
use Rattle.std.specs.List.{slice_get}
use Rattle.std.proofs.lemmas.Option.{slice_get_read}
use Rattle.explore_sites.specs.Cells.{image_words}
use Rattle.explore_sites.specs.declared.cell.Cell.{Cell}
use Rattle.explore_sites.proofs.CellLemmas.{put_there}
use Rattle.explore_sites.proofs.CanonLemmas.{set_canonical, insert_canonical, insert_shown}
use Rattle.explore_sites.proofs.words.put_cell.Goals as goal

pub returns-in-Some : goal.returns-in-Some
returns-in-Some g c =
    let cells = c.args.cells.now.items in
    let same : c.deref.result.now ≡ cells = c.deref.ensures.value in
    let within : c.in-Some.at < length cells = subst (λ (cells : List Cell). c.in-Some.at < length cells) same c.in-Some.ensures.within in
    let there : slice_get cells c.in-Some.at ≡ Some c.index_mut.result.now
    = slice_get_read cells (length cells) c.in-Some.at c.index_mut.result.now refl within c.index_mut.ensures.value in
    let is : c.index_mut.result.now.address ≡ c.args.address
    = c.in-Some.ensures.found c.index_mut.result.now (ap (λ (cells : List Cell). slice_get cells c.in-Some.at) same ∙ there) in
    record {
      words = λ base. put_there base cells c.in-Some.at c.args.address c.args.bytes c.index_mut.result.now _ there is is refl
          (λ k cell below e. c.in-Some.ensures.first k cell below (ap (λ (cells : List Cell). slice_get cells k) same ∙ e));
      canonical = λ image other are. set_canonical image cells c.in-Some.at c.index_mut.result.now _ there refl
          (λ own. other (own ∙ ap (image_words image) is)) are;
    }

pub returns-in_ok-insert-in-None : goal.returns-in_ok-insert-in-None
returns-in_ok-insert-in-None g c =
    let cells = c.args.cells.now.items in
    let none : (k : ℕ) (cell : Cell) → slice_get cells k ≡ Some cell → cell.address ≢ c.args.address
    = subst (λ (l : List Cell). (k : ℕ) (cell : Cell) → slice_get l k ≡ Some cell → cell.address ≢ c.args.address)
    c.deref.ensures.value c.in-None.ensures.none in
    let below : (k : ℕ) (cell : Cell) → k < c.place_of-place.result → slice_get cells k ≡ Some cell → cell.address < c.args.address
    = subst (λ (l : List Cell). (k : ℕ) (cell : Cell) → k < c.place_of-place.result → slice_get l k ≡ Some cell → cell.address < c.args.address)
    c.deref-in-None.ensures.value c.place_of-place.ensures.below in
    let here : (cell : Cell) → slice_get cells c.place_of-place.result ≡ Some cell → c.args.address ≤ cell.address
    = subst (λ (l : List Cell). (cell : Cell) → slice_get l c.place_of-place.result ≡ Some cell → c.args.address ≤ cell.address)
    c.deref-in-None.ensures.value c.place_of-place.ensures.here in
    record {
      words = λ base. insert_shown base cells c.insert.new.self.items c.place_of-place.result _
          c.in_ok-insert-in-None.ensures.items none;
      canonical = λ image other are. insert_canonical image cells c.insert.new.self.items c.place_of-place.result _
          c.in_ok-insert-in-None.ensures.items below here none other are;
    }
