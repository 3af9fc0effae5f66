-- Logs of one program, as `merge` requires them.
use Rattle.std.proofs.Common.{◌≡◌, ℕ, zero, suc, List, [], ◌∷◌, Some, length, sym, ap, subst, ◌∙◌}
use Rattle.std.specs.Prelude.{slice_get}
use Rattle.image.specs.Image.{ImageValue}
use Rattle.bank_laws.specs.Merged.{most_banks}
use Rattle.bank_memory.specs.BankLog.{BankLog}
use Rattle.bank_hart_log.specs.HartLog.{HartLogValue}
use Rattle.bank_merge.specs.Logs.{AreOfOne, IsHartOf, IsBankOf}
use Rattle.bank_threads.specs.Banked.{IsHartOfRun}

-- what `are_of_harts` says
abbrev pub Harts : ImageValue → List ℕ → ℕ → List (ℕ × ℕ) → List HartLogValue → Type 0
Harts image inputs budget plan logs = (length logs ≡ length inputs)
    × ((h : ℕ) (l : HartLogValue) → slice_get logs h ≡ Some l → IsHartOfRun image inputs budget plan h l)

-- what `are_of_banks` says
abbrev pub Banks : ImageValue → List ℕ → List BankLog → Type 0
Banks image inputs banks = (length banks ≡ most_banks)
    × ((b : ℕ) (k : BankLog) → slice_get banks b ≡ Some k → IsBankOf image inputs b k)

hart_of : (image : ImageValue) (inputs : List ℕ) (budget : ℕ) (plan : List (ℕ × ℕ)) (h : ℕ) (l : HartLogValue) → IsHartOfRun image inputs budget plan h l → IsHartOf image inputs h l
hart_of image inputs budget plan h l is = record { same_image = is.same_image; same_inputs = is.same_inputs; number = is.number }

pub of_run : (image : ImageValue) (inputs : List ℕ) (budget : ℕ) (plan : List (ℕ × ℕ)) (logs : List HartLogValue) (banks : List BankLog)
    → Harts image inputs budget plan logs → Banks image inputs banks → AreOfOne logs banks
of_run image inputs budget plan logs banks harts are_banks = record {
  image = image;
  inputs = inputs;
  are = record {
    harts = harts.0;
    sixteen = are_banks.0;
    of_harts = λ h l at. hart_of image inputs budget plan h l (harts.1 h l at);
    of_banks = are_banks.1;
  };
}

one_hart : (image : ImageValue) (inputs : List ℕ) (log : HartLogValue) → IsHartOf image inputs 0 log
    → (h : ℕ) (l : HartLogValue) → slice_get (log ∷ []) h ≡ Some l → IsHartOf image inputs h l
one_hart image inputs log is zero l at = let same : log ≡ l = cc (at) in subst (IsHartOf image inputs 0) same is
one_hart image inputs log is (suc h) l at = absurd (cc (at))

pub by_hand : (image : ImageValue) (inputs : List ℕ) (log : HartLogValue) (logs : List HartLogValue) (banks : List BankLog)
    → length inputs ≡ 1 → IsHartOf image inputs 0 log → logs ≡ log ∷ [] → Banks image inputs banks → AreOfOne logs banks
by_hand image inputs log logs banks one is are_logs are_banks = record {
  image = image;
  inputs = inputs;
  are = record {
    harts = ap length are_logs ∙ sym one;
    sixteen = are_banks.0;
    of_harts = λ h l at. one_hart image inputs log is h l (ap (λ (ls : List HartLogValue). slice_get ls h) (sym are_logs) ∙ at);
    of_banks = are_banks.1;
  };
}
