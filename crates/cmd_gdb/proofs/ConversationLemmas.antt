-- How a session goes on.
use Rattle.std.proofs.Common.{append_assoc, append-nil, ◌≡◌, ℕ, List, [], ◌∷◌, ◌++◌, Option, Some, None, IfSome, ap, sym, subst, ◌∙◌}
use Rattle.std.proofs.KnownBytes.{Appends-nil, Appends-trans}
use Rattle.std.specs.Io.KnownBytes.{Appends}
use Rattle.gdb_frames.specs.Items.{frames_from, frames_of, item_of, onto, FrameItem}
use Rattle.gdb_frames.specs.Reading.{reader_state, ReaderState}
use Rattle.gdb_frames.specs.declared.found.Found.{Found}
use Rattle.gdb_frames.specs.declared.found.Place.TheVariants.{Outside}
use Rattle.cmd_gdb.specs.Reading.{ReadsTo}
use Rattle.cmd_gdb.specs.Serving.{BeginsServed, BeginsToServe, Reacts, Sends, SendsPart, Served, Serves, ServerState}

-- what is sent for the items that are left, behind what was sent so far, is sent for all of them
pub record Leads (first : ServerState) (all : List FrameItem) (done : List ℕ) (s : ServerState)
    (items : List FrameItem) : Type 0 where
  pub whole : (more : List ℕ) → Serves s items more → Serves first all (done ++ more)
  pub part : (more : List ℕ) → BeginsToServe s items more → BeginsToServe first all (done ++ more)

leads_on : (first s u : ServerState) (all items : List FrameItem) (item : FrameItem)
    (done sent : List ℕ)
    → Leads first all done s (item ∷ items) → Reacts s item sent (Some u)
    → Leads first all (done ++ sent) u items
leads_on first s u all items item done sent leads reacts = record {
  whole = λ more h. subst (Serves first all) (sym (append_assoc done sent more))
      (leads.whole (sent ++ more) (Serves.on s u item items sent more reacts h));
  part = λ more h. subst (BeginsToServe first all) (sym (append_assoc done sent more))
      (leads.part (sent ++ more) (BeginsToServe.on s u item items sent more reacts h));
}

-- the same of bytes that are left, if they are known
abbrev pub LeadsFrom : ServerState → Option (List ℕ) → Option (List ℕ) → List ℕ → ServerState
    → ReaderState → Type 0
LeadsFrom first None rest done s r = Unit {0}
LeadsFrom first (Some input) None done s r = ⊥
LeadsFrom first (Some input) (Some rest) done s r =
    Leads first (frames_of input) done s (frames_from r rest)

-- what was found so far was answered, and the rest is still to be answered from this state
pub record IsServed (first : ServerState) (input rest old now : Option (List ℕ)) (s : ServerState)
    (r : ReaderState) : Type 0 where
  pub done : List ℕ
  pub wrote : Appends old now done
  pub left : LeadsFrom first input rest done s r

starts_from : (s : ServerState) (input : Option (List ℕ))
    → LeadsFrom s input input [] s (reader_state Outside [])
starts_from s None = tt
starts_from s (Some input) = record { whole = λ more h. h; part = λ more h. h }

pub starts : (s : ServerState) (input old : Option (List ℕ))
    → IsServed s input input old old s (reader_state Outside [])
starts s input old = record { done = []; wrote = Appends-nil old; left = starts_from s input }

from_on : (first : ServerState) (input l0 l1 : Option (List ℕ)) (s u : ServerState)
    (r0 r1 : ReaderState) (found : Found) (done sent : List ℕ)
    → LeadsFrom first input l0 done s r0 → ReadsTo l0 l1 r0 r1 (Some found)
    → Reacts s (item_of found r1.body) sent (Some u) → LeadsFrom first input l1 (done ++ sent) u r1
from_on first None l0 l1 s u r0 r1 found done sent left read reacts = tt
from_on first (Some input) None l1 s u r0 r1 found done sent left read reacts = absurd left
from_on first (Some input) (Some rest) None s u r0 r1 found done sent left read reacts = absurd read
from_on first (Some input) (Some rest) (Some more) s u r0 r1 found done sent left read reacts =
    leads_on first s u (frames_of input) (frames_from r1 more) (item_of found r1.body) done sent
    (subst (Leads first (frames_of input) done s) read.0 left) reacts

-- the session goes on behind an item
pub goes_on_behind : (first : ServerState) (input l0 l1 old k0 k1 : Option (List ℕ)) (s u : ServerState)
    (r0 r1 : ReaderState) (found : Found)
    → IsServed first input l0 old k0 s r0 → ReadsTo l0 l1 r0 r1 (Some found)
    → Sends s (item_of found r1.body) k0 k1 (Some u) → IsServed first input l1 old k1 u r1
goes_on_behind first input l0 l1 old k0 k1 s u r0 r1 found so_far read sends = record {
  done = so_far.done ++ sends.sent;
  wrote = Appends-trans old k0 k1 so_far.done sends.sent so_far.wrote sends.appended;
  left = from_on first input l0 l1 s u r0 r1 found so_far.done sends.sent so_far.left read
      sends.reacts;
}

-- what is left, as what was found and what is left behind it
next_items : (first : ServerState) (input l0 l1 : List ℕ) (s : ServerState) (r0 r1 : ReaderState)
    (found : Option Found) (done : List ℕ)
    → Leads first (frames_of input) done s (frames_from r0 l0)
    → ReadsTo (Some l0) (Some l1) r0 r1 found
    → Leads first (frames_of input) done s (onto found r1.body (frames_from r1 l1))
next_items first input l0 l1 s r0 r1 found done left read =
    subst (Leads first (frames_of input) done s) read.0 left

-- nothing was left
pub is_done : (first : ServerState) (input l0 l1 old now : Option (List ℕ)) (s : ServerState)
    (r0 r1 : ReaderState)
    → IsServed first input l0 old now s r0 → ReadsTo l0 l1 r0 r1 None
    → IfSome input (λ xs. Served first (frames_of xs) old now)
unfolding frames_from
is_done first None l0 l1 old now s r0 r1 so_far read = tt
is_done first (Some input) None l1 old now s r0 r1 so_far read = absurd so_far.left
is_done first (Some input) (Some rest) None old now s r0 r1 so_far read = absurd read
is_done first (Some input) (Some rest) (Some more) old now s r0 r1 so_far read =
    let none : frames_from r0 rest ≡ [] = read.0 ∙ ap (frames_from r1) read.1 in
    let leads : Leads first (frames_of input) so_far.done s []
    = subst (Leads first (frames_of input) so_far.done s) none so_far.left in (
      so_far.done ++ [],
      subst (Appends old now) (sym (append-nil so_far.done)) so_far.wrote,
      leads.whole [] (Serves.none_left s),
    )

-- an item has ended the session
pub is_ended : (first : ServerState) (input l0 l1 old k0 k1 : Option (List ℕ)) (s : ServerState)
    (r0 r1 : ReaderState) (found : Found)
    → IsServed first input l0 old k0 s r0 → ReadsTo l0 l1 r0 r1 (Some found)
    → Sends s (item_of found r1.body) k0 k1 None
    → IfSome input (λ xs. Served first (frames_of xs) old k1)
is_ended first None l0 l1 old k0 k1 s r0 r1 found so_far read sends = tt
is_ended first (Some input) None l1 old k0 k1 s r0 r1 found so_far read sends = absurd so_far.left
is_ended first (Some input) (Some rest) None old k0 k1 s r0 r1 found so_far read sends = absurd read
is_ended first (Some input) (Some rest) (Some more) old k0 k1 s r0 r1 found so_far read sends =
    let leads
    = next_items first input rest more s r0 r1 (Some found) so_far.done so_far.left read in (
      so_far.done ++ sends.sent,
      Appends-trans old k0 k1 so_far.done sends.sent so_far.wrote sends.appended,
      leads.whole sends.sent
          (Serves.ends s (item_of found r1.body) (frames_from r1 more) sends.sent sends.reacts),
    )

-- what was sent is a beginning
pub has_begun : (first : ServerState) (input l0 old now : Option (List ℕ)) (s : ServerState)
    (r0 : ReaderState)
    → IsServed first input l0 old now s r0
    → IfSome input (λ xs. BeginsServed first (frames_of xs) old now)
has_begun first None l0 old now s r0 so_far = tt
has_begun first (Some input) None old now s r0 so_far = absurd so_far.left
has_begun first (Some input) (Some rest) old now s r0 so_far = (
  so_far.done ++ [],
  subst (Appends old now) (sym (append-nil so_far.done)) so_far.wrote,
  so_far.left.part [] (BeginsToServe.nothing s (frames_from r0 rest)),
)

-- an item was answered in part
pub is_cut : (first : ServerState) (input l0 l1 old k0 k1 : Option (List ℕ)) (s : ServerState)
    (r0 r1 : ReaderState) (found : Found)
    → IsServed first input l0 old k0 s r0 → ReadsTo l0 l1 r0 r1 (Some found)
    → SendsPart s (item_of found r1.body) k0 k1
    → IfSome input (λ xs. BeginsServed first (frames_of xs) old k1)
is_cut first None l0 l1 old k0 k1 s r0 r1 found so_far read sends = tt
is_cut first (Some input) None l1 old k0 k1 s r0 r1 found so_far read sends = absurd so_far.left
is_cut first (Some input) (Some rest) None old k0 k1 s r0 r1 found so_far read sends = absurd read
is_cut first (Some input) (Some rest) (Some more) old k0 k1 s r0 r1 found so_far read sends =
    let leads
    = next_items first input rest more s r0 r1 (Some found) so_far.done so_far.left read in (
      so_far.done ++ sends.sent,
      Appends-trans old k0 k1 so_far.done sends.sent so_far.wrote sends.appended,
      leads.part sends.sent
          (BeginsToServe.cut s (item_of found r1.body) (frames_from r1 more) sends.sent sends.cut),
    )
