-- What is shown of a file that loads.
use Rattle.std.specs.Prelude.{◌≡◌, ℕ, List}
use Rattle.std.specs.declared.result.Result.TheVariants.{Ok}
use Rattle.image.specs.Image.{ImageValue}
use Rattle.elf_read.specs.SymbolTable.{symbols_of}
use Rattle.isa_disasm.specs.Segments.{ListsSegments}
use Rattle.cmd_run.specs.Info.{ShowsFacts}
use Rattle.program_open.specs.Program.{program_of}
use Rattle.cmd_run.specs.declared.file.FileView.{FileView}
use Rattle.cmd_run.specs.declared.file.FileView.TheVariants as view
use Rattle.cmd_run.specs.declared.info.SymbolOrder.TheVariants as order
use Rattle.program_open.specs.declared.program.ProgramForm.TheVariants as form

-- the text is what is shown of an image and its file's bytes
abbrev pub ShowsImage : FileView → ImageValue → List ℕ → List ℕ → Type 0
ShowsImage view.Listing image bytes text = ListsSegments image.segments text
ShowsImage view.Facts image bytes text = ShowsFacts order.OfFile image (symbols_of bytes) text
ShowsImage view.FactsByAddress image bytes text = ShowsFacts order.ByAddress image (symbols_of bytes) text

-- a file loads, and the text is what is shown of it
pub record ShowsFile (view : FileView) (bytes text : List ℕ) : Type 0 where
  pub image : ImageValue
  pub loads : program_of form.Elf bytes ≡ Ok image
  pub shows : ShowsImage view image bytes text
