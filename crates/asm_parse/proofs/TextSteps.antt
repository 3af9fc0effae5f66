-- The bytes of a string, byte by byte.
use Rattle.std.proofs.Common.{◌≡◌, ℕ, zero, suc, ◌+◌, ◌-◌, ◌<◌, ◌≤◌, List, [], ◌∷◌, ◌++◌, length, drop, Some, None, Result, Ok, Err, refl, sym, arith, length-drop}
use Rattle.std.proofs.lemmas.List.{drop-drop, drop_all}
use Rattle.asm_statement.specs.declared.fault.FaultKind.{FaultKind}
use Rattle.asm_statement.specs.declared.fault.FaultKind.TheVariants as faults
use Rattle.asm_statement.specs.Texts.{byte_in_front, with_byte, said_from}

-- the bytes that belong to the escape before are skipped
skips : (n : ℕ) (done bytes : List ℕ) → n ≤ length bytes → said_from n done bytes ≡ said_from 0 done (drop n bytes)
unfolding said_from
skips zero done bytes le = refl
skips (suc n) done [] le = absurd (omega arith)
skips (suc n) done (b ∷ bs) le = skips n done bs (omega arith)

-- the byte at a text's front, and then those of the rest
stepped : (done bytes : List ℕ) → 0 < length bytes → said_from 0 done bytes ≡ with_byte (byte_in_front bytes) (λ byte len. said_from (len - 1) (done ++ byte ∷ []) (drop 1 bytes))
unfolding said_from
stepped done [] lt = absurd (omega arith)
stepped done (b ∷ bs) lt = refl

behind_byte : (n : ℕ) (done bytes : List ℕ) → 0 < n → n ≤ length bytes → said_from (n - 1) done (drop 1 bytes) ≡ said_from 0 done (drop n bytes)
behind_byte n done [] pos le = absurd (omega arith)
behind_byte zero done (b ∷ bs) pos le = absurd (omega arith)
behind_byte (suc n) done (b ∷ bs) pos le = let m : suc n - 1 ≡ n = omega arith in rw m (skips n done bs (omega arith))

module _ (all done : List ℕ) (at : ℕ) (total : Result (List ℕ) FaultKind) (lt : at < length all) (so_far : said_from 0 done (drop at all) ≡ total) where
  here : with_byte (byte_in_front (drop at all)) (λ byte len. said_from (len - 1) (done ++ byte ∷ []) (drop 1 (drop at all))) ≡ total
  here = let left : 0 < length (drop at all) = omega (arith, length-drop at all) in rw (← stepped done (drop at all) left) so_far

  pub byte_step : (byte n : ℕ) → byte_in_front (drop at all) ≡ Some (byte, n) → 0 < n → n ≤ length (drop at all) → said_from 0 (done ++ byte ∷ []) (drop (at + n) all) ≡ total
  byte_step byte n is pos le = rw (← drop-drop n at all, ← behind_byte n (done ++ byte ∷ []) (drop at all) pos le) (rw is at here)

  pub no_byte : byte_in_front (drop at all) ≡ None → total ≡ Err faults.Operands
  no_byte is = sym (rw is at here)

pub at_end : (all done : List ℕ) (at : ℕ) (total : Result (List ℕ) FaultKind) → length all ≤ at → said_from 0 done (drop at all) ≡ total → total ≡ Ok done
unfolding said_from
at_end all done at total le so_far = sym (rw (drop_all at all le) at so_far)
