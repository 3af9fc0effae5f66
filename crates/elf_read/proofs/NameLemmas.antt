-- what is text
use Rattle.std.proofs.Common.{◌≡◌, ℕ, List, true, false, inl, inr}
use Rattle.std.proofs.lemmas.Bool.{cases_Bool}
use Rattle.std.proofs.lemmas.Str.{IsUtf8-from_is_utf8, is_utf8-from_IsUtf8}
use Rattle.std.specs.Str.{is_utf8, IsUtf8}

pub is_text : (xs : List ℕ) → IsUtf8 xs → is_utf8 xs ≡ true
is_text xs h = is_utf8-from_IsUtf8 xs h

pub is_no_text : (xs : List ℕ) → ¬ (IsUtf8 xs) → is_utf8 xs ≡ false
is_no_text xs h = elim (cases_Bool (is_utf8 xs)) [ inl e ↦ absurd (h (IsUtf8-from_is_utf8 xs e)) | inr e ↦ e ]
