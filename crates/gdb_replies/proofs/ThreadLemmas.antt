-- The numbers of threads, one behind the other.
use Rattle.std.proofs.Common.{◌≡◌, ℕ, ◌+◌, ◌-◌, ◌<◌, ◌≤◌, suc, List, [], ◌∷◌, ◌++◌, refl, ap, sym, ◌∙◌, append_assoc, append-nil, arith}
use Rattle.gdb_replies.specs.Threads.{thread_items, list_item}

-- while harts are left, the next one's thread stands first
items_more : (h n : ℕ) → h < n → thread_items h (n - h) ≡ list_item h ++ thread_items (h + 1) (n - (h + 1))
items_more h n left = let e : n - h ≡ suc (n - (h + 1)) = omega arith in rw e refl

-- behind the last there is nothing
items_done : (h n : ℕ) → n ≤ h → thread_items h (n - h) ≡ []
items_done h n none = let e : n - h ≡ 0 = omega arith in rw e refl

-- one thread more
pub next_item : (before longer all : List ℕ) (h n : ℕ) → h < n → longer ≡ before ++ list_item h
    → before ++ thread_items h (n - h) ≡ all → longer ++ thread_items (h + 1) (n - (h + 1)) ≡ all
next_item before longer all h n left is_longer so_far =
    let rest = thread_items (h + 1) (n - (h + 1)) in
    ap (λ l. l ++ rest) is_longer ∙ append_assoc before (list_item h) rest
    ∙ ap (λ l. before ++ l) (sym (items_more h n left)) ∙ so_far

-- all threads are written
pub all_items : (old begun out : List ℕ) (h n : ℕ) → n ≤ h → begun ≡ old ++ (109 ∷ [])
    → out ++ thread_items h (n - h) ≡ begun ++ thread_items 0 n → out ≡ old ++ (109 ∷ thread_items 0 n)
all_items old begun out h n none is_begun so_far =
    sym (append-nil out) ∙ ap (λ l. out ++ l) (sym (items_done h n none)) ∙ so_far
    ∙ ap (λ l. l ++ thread_items 0 n) is_begun ∙ append_assoc old (109 ∷ []) (thread_items 0 n)
