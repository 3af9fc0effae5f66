-- Keys that are linked, one more at a time.
use Rattle.std.proofs.Common.{◌≡◌, ◌≢◌, ℕ, suc, ◌+◌, ◌-◌, ◌<◌, ◌≤◌, ◌^◌, List, [], ◌∷◌, ◌++◌, length, get_or, set, Some, refl, ap, sym, ◌∙◌, subst, arith, inl, inr, ◌⊎◌}
use Rattle.std.specs.List.{Contains, slice_get}
use Rattle.std.specs.Prelude.{Err, Ok, OnOk, Result, false, is_err}
use Rattle.std.proofs.lemmas.Bool.{cases_eq}
use Rattle.std.proofs.lemmas.List.{length-append, length-set, get_or-set_same, get_or-set_other, get_or_append_left, get_or_at}
use Rattle.std.proofs.lemmas.Option.{slice_get_within, get_or_from_slice_get, slice_get-get_or}
use Rattle.explore_table.proofs.ListLemmas.{at_contains}
use Rattle.explore_table.specs.Buckets.{bucket_of}
use Rattle.explore_table.specs.Links.{key_at, IsLast, IsLinked, IsLinkedTo, IsSought}

below_or : (k n : ℕ) → k < n + 1 → (k < n) ⊎ (k ≡ n)
below_or k n h = grind arith

at_end : (keys : List (List ℕ)) (key : List ℕ) → key_at (keys ++ key ∷ []) (length keys) ≡ key
at_end keys key = get_or_at keys key [] [] (length keys) refl

-- what the code reads
pub key_is : (keys : List (List ℕ)) (k : ℕ) (key : List ℕ) → slice_get keys k ≡ Some key → key_at keys k ≡ key
key_is keys k key e = get_or_from_slice_get keys k key [] e

-- the same by other names
moved : (buckets : ℕ) (keys : List (List ℕ)) (x y : List ℕ) (k i link last : ℕ) → x ≡ y → k ≡ i → link ≡ last
    → IsLast buckets (bucket_of x buckets) k keys link → IsLast buckets (bucket_of y buckets) i keys last
moved buckets keys x y k i link last xs ks links l =
    subst (IsLast buckets (bucket_of y buckets) i keys) links
    (subst (λ n. IsLast buckets (bucket_of y buckets) n keys link) ks
    (subst (λ z. IsLast buckets (bucket_of z buckets) k keys link) xs l))

-- ---- one key more
-- what stands below n stands there in a longer list
last_longer : (buckets bucket n : ℕ) (keys : List (List ℕ)) (key : List ℕ) (link : ℕ) → n ≤ length keys
    → IsLast buckets bucket n keys link → IsLast buckets bucket n (keys ++ key ∷ []) link
last_longer buckets bucket n keys key link within l = record {
  within = l.within;
  inside = λ k e. ap (λ x. bucket_of x buckets) (get_or_append_left keys (key ∷ []) [] k (let w = l.within in omega (arith, w, e, within)))
      ∙ l.inside k e;
  last = λ k from below is. l.last k from below
      (ap (λ x. bucket_of x buckets) (sym (get_or_append_left keys (key ∷ []) [] k (omega (arith, below, within)))) ∙ is);
}

-- a key of another bucket changes nothing
next_other : (buckets bucket n : ℕ) (keys : List (List ℕ)) (link : ℕ) → bucket_of (key_at keys n) buckets ≢ bucket
    → IsLast buckets bucket n keys link → IsLast buckets bucket (n + 1) keys link
next_other buckets bucket n keys link other l = record {
  within = let w = l.within in omega (arith, w);
  inside = l.inside;
  last = λ k from below is. elim (below_or k n below) [
    | inl old ↦ l.last k from old is
    | inr new ↦ other (ap (λ i. bucket_of (key_at keys i) buckets) (sym new) ∙ is)
  ];
}

-- a key becomes the last of its bucket
next_new : (buckets bucket n : ℕ) (keys : List (List ℕ)) → bucket_of (key_at keys n) buckets ≡ bucket
    → IsLast buckets bucket (n + 1) keys (n + 1)
next_new buckets bucket n keys is = record {
  within = omega arith;
  inside = λ k e. ap (λ i. bucket_of (key_at keys i) buckets) (the_last k n e) ∙ is;
  last = λ k from below here. absurd (omega (arith, from, below));
}
  where
    the_last : (k n : ℕ) → suc k ≡ n + 1 → k ≡ n
    the_last k n e = omega (arith, e)

-- key number n is linked, behind those before it
pub linked_next : (keys : List (List ℕ)) (befores heads : List ℕ) (bucket before n : ℕ) → IsLinkedTo n keys befores heads
    → n < length keys → before ≡ get_or heads bucket 0 → bucket ≡ bucket_of (key_at keys n) (length heads) → bucket < length heads
    → IsLinkedTo (n + 1) keys (set befores n before) (set heads bucket (n + 1))
linked_next keys befores heads bucket before n l inside before_is is within =
    let buckets : length (set heads bucket (n + 1)) ≡ length heads = length-set heads bucket (n + 1) in
    let count = l.even in
    record {
      some = rw buckets l.some;
      even = length-set befores n before ∙ l.even;
      each = λ k low. rw buckets (elim (cases_eq k n) [
        | inl at ↦ moved (length heads) keys (key_at keys n) (key_at keys k) n k (get_or heads bucket 0) (get_or (set befores n before) k 0)
            (ap (key_at keys) (sym at)) (sym at)
            (sym before_is ∙ sym (get_or-set_same befores n before 0 (omega (arith, inside, count)))
            ∙ ap (λ i. get_or (set befores n before) i 0) (sym at))
            (subst (λ b. IsLast (length heads) b n keys (get_or heads bucket 0)) is (l.heads bucket within))
        | inr other ↦ subst (IsLast (length heads) (bucket_of (key_at keys k) (length heads)) k keys)
            (sym (get_or-set_other befores n k before 0 other)) (l.each k (lower k n low other))
      ]);
      heads = λ b h. rw buckets (elim (cases_eq b bucket) [
        | inl at ↦ subst (IsLast (length heads) b (n + 1) keys)
            (sym (ap (get_or (set heads bucket (n + 1)) b) refl ∙ ap (λ i. get_or (set heads bucket (n + 1)) i 0) at
            ∙ get_or-set_same heads bucket (n + 1) 0 within))
            (next_new (length heads) b n keys (sym is ∙ sym at))
        | inr other ↦ subst (IsLast (length heads) b (n + 1) keys) (sym (get_or-set_other heads bucket b (n + 1) 0 other))
            (next_other (length heads) b n keys (get_or heads b 0) (λ e. other (sym e ∙ sym is)) (l.heads b (rw buckets at h)))
      ]);
    }
  where
    lower : (k n : ℕ) → k < n + 1 → k ≢ n → k < n
    lower k n low other = elim (below_or k n low) [ inl below ↦ below | inr at ↦ absurd (other at) ]

-- those before a new key are linked as they were
linked_longer : (keys : List (List ℕ)) (key befores heads : List ℕ) (before : ℕ) → IsLinkedTo (length keys) keys befores heads
    → IsLinkedTo (length keys) (keys ++ key ∷ []) (befores ++ before ∷ []) heads
linked_longer keys key befores heads before l =
    let count = l.even in
    record {
      some = l.some;
      even = length-append befores (before ∷ []) ∙ ap (λ n. n + 1) l.even ∙ sym (length-append keys (key ∷ []));
      each = λ k low. moved (length heads) (keys ++ key ∷ []) (key_at keys k) (key_at (keys ++ key ∷ []) k) k k (get_or befores k 0)
          (get_or (befores ++ before ∷ []) k 0) (sym (get_or_append_left keys (key ∷ []) [] k low)) refl
          (sym (get_or_append_left befores (before ∷ []) 0 k (omega (arith, low, count))))
          (last_longer (length heads) (bucket_of (key_at keys k) (length heads)) k keys key (get_or befores k 0) (omega (arith, low))
          (l.each k low));
      heads = λ b h. last_longer (length heads) b (length keys) keys key (get_or heads b 0) (omega arith) (l.heads b h);
    }

set_end : (xs : List ℕ) (x : ℕ) → set (xs ++ x ∷ []) (length xs) x ≡ xs ++ x ∷ []
set_end [] x = refl
set_end (y ∷ xs) x = ap (λ (ys : List ℕ). y ∷ ys) (set_end xs x)

-- what holds where it was no refusal
pub when_ok : {T E P : Type 0} (result : Result T E) → is_err result ≡ false → OnOk result P → P
when_ok (Ok x) none p = p
when_ok (Err e) none p = absurd (cc)

pub linked_added : (keys more : List (List ℕ)) (key befores others heads : List ℕ) (bucket before n buckets : ℕ)
    → IsLinked keys befores heads → more ≡ keys ++ key ∷ [] → others ≡ befores ++ before ∷ [] → n ≡ length keys → n + 1 < 2 ^ 32
    → bucket ≡ bucket_of key buckets → buckets ≡ length heads → bucket < buckets → before ≡ get_or heads bucket before
    → IsLinked more others (set heads bucket (n + 1))
linked_added keys more key befores others heads bucket before n buckets l longer linked count few is all within before_is =
    let inside : bucket < length heads = omega (arith, within, all) in
    let before_so : before ≡ get_or heads bucket 0
    = before_is ∙ sym (get_or_from_slice_get heads bucket (get_or heads bucket before) 0 (slice_get-get_or heads bucket before inside)) in
    let buckets_are : bucket ≡ bucket_of key (length heads) = is ∙ ap (bucket_of key) all in
    let size : length (keys ++ key ∷ []) ≡ length keys + 1 = length-append keys (key ∷ []) in
    let even = l.all.even in
    let next = linked_next (keys ++ key ∷ []) (befores ++ before ∷ []) heads bucket before (length keys)
    (linked_longer keys key befores heads before l.all) (omega (arith, size)) before_so
    (buckets_are ∙ ap (λ x. bucket_of x (length heads)) (sym (at_end keys key))) inside in
    rw longer (rw linked (record {
      few = omega (arith, size, count, few);
      all = subst (λ m. IsLinkedTo m (keys ++ key ∷ []) (befores ++ before ∷ []) (set heads bucket (n + 1))) (sym size)
          (subst (λ m. IsLinkedTo (length keys + 1) (keys ++ key ∷ []) (befores ++ before ∷ []) (set heads bucket (m + 1))) (sym count)
          (subst (λ bs. IsLinkedTo (length keys + 1) (keys ++ key ∷ []) bs (set heads bucket (length keys + 1)))
          (ap (λ i. set (befores ++ before ∷ []) i before) (sym even) ∙ set_end befores before) next));
    }))

-- ---- looking for a key
pub sought_first : (keys : List (List ℕ)) (befores heads key : List ℕ) (bucket : ℕ) → IsLinked keys befores heads
    → bucket ≡ bucket_of key (length heads) → bucket < length heads → IsSought (length heads) keys key (get_or heads bucket 0)
sought_first keys befores heads key bucket l is within =
    let last = l.all.heads bucket within in
    record {
      within = last.within;
      inside = λ k e. last.inside k e ∙ is;
      none = λ k from below same. last.last k from below (ap (λ x. bucket_of x (length heads)) same ∙ sym is);
    }

three_ways : (k link : ℕ) → 0 < link → (link ≤ k) ⊎ ((k ≡ link - 1) ⊎ (k < link - 1))
three_ways k link some = grind arith

-- the link of the key that a link leads to
pub before_at : (keys : List (List ℕ)) (befores heads key : List ℕ) (link : ℕ) → IsLinked keys befores heads
    → IsSought (length heads) keys key link → 0 < link
    → IsLast (length heads) (bucket_of (key_at keys (link - 1)) (length heads)) (link - 1) keys (get_or befores (link - 1) 0)
before_at keys befores heads key link l s some = l.all.each (link - 1) (let w = s.within in omega (arith, w, some))

pub sought_next : (keys : List (List ℕ)) (befores heads key : List ℕ) (link : ℕ) → IsLinked keys befores heads
    → IsSought (length heads) keys key link → 0 < link → (key_at keys (link - 1) ≡ key → ⊥)
    → IsSought (length heads) keys key (get_or befores (link - 1) 0)
sought_next keys befores heads key link l s some differs =
    let w = s.within in
    let last = before_at keys befores heads key link l s some in
    let same_bucket : bucket_of (key_at keys (link - 1)) (length heads) ≡ bucket_of key (length heads)
    = s.inside (link - 1) (omega (arith, some)) in
    record {
      within = let v = last.within in omega (arith, v, w, some);
      inside = λ k e. last.inside k e ∙ same_bucket;
      none = λ k from under same. elim (three_ways k link some) [
        | inl above ↦ s.none k above under same
        | inr rest ↦ elim rest [
          | inl here ↦ differs (ap (key_at keys) (sym here) ∙ same)
          | inr lower ↦ last.last k from lower (ap (λ x. bucket_of x (length heads)) same ∙ sym same_bucket)
        ]
      ];
    }

pub sought_none : (buckets : ℕ) (keys : List (List ℕ)) (key : List ℕ) (link : ℕ) → IsSought buckets keys key link → link ≤ 0
    → Contains keys key → ⊥
sought_none buckets keys key link s zero_ c =
    let at = at_contains keys key c in
    s.none at.0 (omega (arith, zero_)) (slice_get_within keys at.0 key at.1) (key_is keys at.0 key at.1)

-- a search goes back
pub before_less : (keys : List (List ℕ)) (befores heads key : List ℕ) (link : ℕ) → IsLinked keys befores heads
    → IsSought (length heads) keys key link → 0 < link → get_or befores (link - 1) 0 < link
before_less keys befores heads key link l s some =
    let last = before_at keys befores heads key link l s some in
    let v = last.within in omega (arith, v, some)

-- ---- linking all anew
-- nothing is linked yet
pub linked_none : (keys : List (List ℕ)) (befores heads : List ℕ) → 0 < length heads → length befores ≡ length keys
    → ((b : ℕ) → b < length heads → get_or heads b 0 ≡ 0) → IsLinkedTo 0 keys befores heads
linked_none keys befores heads some even zeros = record {
  some = some;
  even = even;
  each = λ k low. absurd (omega (arith, low));
  heads = λ b h. let z = zeros b h in record {
    within = omega (arith, z);
    inside = λ k e. absurd (omega (arith, e, z));
    last = λ k from below is. absurd (omega (arith, below));
  };
}

-- all keys are linked
pub linked_all : (keys : List (List ℕ)) (befores heads : List ℕ) (n : ℕ) → length keys < 2 ^ 32 → n ≡ length keys
    → IsLinkedTo n keys befores heads → IsLinked keys befores heads
linked_all keys befores heads n few all l = record {
  few = few;
  all = subst (λ m. IsLinkedTo m keys befores heads) all l;
}
