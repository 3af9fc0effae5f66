-- What is read is what the grammar says.
use Rattle.std.proofs.Common.{◌≡◌, ◌≢◌, ℕ, ◌+◌, ◌*◌, ◌==◌, Bool, true, false, Option, Some, None, List, [], ◌∷◌, ◌++◌, ap, sym, subst, refl, ◌∙◌, append-nil, append_assoc, eqb-true, ne_eqb, if◌then◌else◌}
use Rattle.std.proofs.lemmas.Bool.{eqb-false}
use Rattle.std.proofs.lemmas.List.Elements.{All-nil, All-cons, All-append, All-head, All-tail}
use Rattle.gdb_frames.specs.declared.found.Found.{Found}
use Rattle.gdb_frames.specs.declared.found.Found.TheVariants.{Packet, BadPacket, Ack, Again}
use Rattle.gdb_frames.specs.declared.found.Place.{Place}
use Rattle.gdb_frames.specs.declared.found.Place.TheVariants.{Outside, Inside, Mark, Digit}
use Rattle.gdb_frames.specs.Digits.{hex_value}
use Rattle.gdb_frames.specs.Frames.{checksum}
use Rattle.gdb_frames.specs.Reading.{reader_state, judged_by_digits, judged_packet, state_after}
use Rattle.gdb_frames.specs.Items.{FrameItem, item_of, frames_from, frames_of}
use Rattle.gdb_frames.specs.Grammar.{IsData, IsChecksum, ReadsFrames}

abbrev IsDataByte : ℕ → Type 0
IsDataByte b = (b ≢ 36) × (b ≢ 35)

-- what judging two bytes of a checksum means
abbrev Judged : Found → List ℕ → ℕ → ℕ → Type 0
Judged Packet body c d = IsChecksum c d body
Judged BadPacket body c d = IsChecksum c d body → ⊥
Judged Ack body c d = ⊥
Judged Again body c d = ⊥

some_same : (a b : ℕ) → Some a ≡ Some b → a ≡ b
some_same a b e = cc

no_first : (body : List ℕ) (c d : ℕ) → hex_value c ≡ None → IsChecksum c d body → ⊥
no_first body c d e check = let f = sym e ∙ check.first_digit in cc

no_second : (body : List ℕ) (c d : ℕ) → hex_value d ≡ None → IsChecksum c d body → ⊥
no_second body c d e check = let f = sym e ∙ check.second_digit in cc

other_sum : (body : List ℕ) (c d h l : ℕ) → hex_value c ≡ Some h → hex_value d ≡ Some l
    → (16 * h + l == checksum body) ≡ false → IsChecksum c d body → ⊥
other_sum body c d h l eh el wrong check =
    let sh : h ≡ check.high = some_same h check.high (sym eh ∙ check.first_digit) in
    let sl : l ≡ check.low = some_same l check.low (sym el ∙ check.second_digit) in
    eqb-false (16 * h + l) (checksum body) wrong (ap (λ k. 16 * k + l) sh ∙ ap (λ k. 16 * check.high + k) sl ∙ check.sum)

judged_sum : (body : List ℕ) (c d h l : ℕ) (t : Bool) → hex_value c ≡ Some h → hex_value d ≡ Some l
    → (16 * h + l == checksum body) ≡ t → Judged (if t then Packet else BadPacket) body c d
judged_sum body c d h l true eh el e =
    record { high = h; low = l; first_digit = eh; second_digit = el; sum = eqb-true _ _ e }
judged_sum body c d h l false eh el e = other_sum body c d h l eh el e

judged_digits : (body : List ℕ) (c d : ℕ) (oh ol : Option ℕ) → hex_value c ≡ oh → hex_value d ≡ ol
    → Judged (judged_by_digits body oh ol) body c d
judged_digits body c d None ol eh el = no_first body c d eh
judged_digits body c d (Some h) None eh el = no_second body c d el
judged_digits body c d (Some h) (Some l) eh el = judged_sum body c d h l (16 * h + l == checksum body) eh el refl

judge_means : (body : List ℕ) (c d : ℕ) → Judged (judged_packet body c d) body c d
judge_means body c d = judged_digits body c d (hex_value c) (hex_value d) refl refl

-- the other way round
as_packet : (found : Found) (body : List ℕ) (c d : ℕ) → Judged found body c d → IsChecksum c d body → found ≡ Packet
as_packet Packet body c d means check = refl
as_packet BadPacket body c d means check = absurd (means check)
as_packet Ack body c d means check = absurd means
as_packet Again body c d means check = absurd means

as_bad : (found : Found) (body : List ℕ) (c d : ℕ) → Judged found body c d → (IsChecksum c d body → ⊥) → found ≡ BadPacket
as_bad Packet body c d means wrong = absurd (wrong means)
as_bad BadPacket body c d means wrong = refl
as_bad Ack body c d means wrong = absurd means
as_bad Again body c d means wrong = absurd means

-- a whole packet
packet_read : (found : Found) (body : List ℕ) (c d : ℕ) (bytes : List ℕ) (items : List FrameItem) → Judged found body c d
    → IsData body → ReadsFrames bytes items → ReadsFrames (36 ∷ (body ++ 35 ∷ (c ∷ (d ∷ bytes)))) (item_of found body ∷ items)
packet_read Packet body c d bytes items means plain later = ReadsFrames.packet body c d bytes items plain means later
packet_read BadPacket body c d bytes items means plain later = ReadsFrames.bad_packet body c d bytes items plain means later
packet_read Ack body c d bytes items means plain later = absurd means
packet_read Again body c d bytes items means plain later = absurd means

-- the bytes of the packet that is being read
abbrev taken : Place → List ℕ → List ℕ
taken Outside body = []
taken Inside body = 36 ∷ body
taken Mark body = 36 ∷ (body ++ 35 ∷ [])
taken (Digit c) body = 36 ∷ (body ++ 35 ∷ (c ∷ []))

abbrev Holds : Place → List ℕ → Type 0
Holds Outside body = Unit {0}
Holds Inside body = IsData body
Holds Mark body = IsData body
Holds (Digit c) body = IsData body

-- what the rest of an input is read as
abbrev Later : List ℕ → Type 0
Later bytes = (place : Place) (body : List ℕ) → Holds place body
    → ReadsFrames (taken place body ++ bytes) (frames_from (reader_state place body) bytes)

abbrev OutsideRead : List ℕ → List ℕ → ℕ → Type 0
OutsideRead bytes body b = ReadsFrames (b ∷ bytes) (frames_from (reader_state Outside body) (b ∷ bytes))

outside_read : (b : ℕ) (bytes body : List ℕ) → Later bytes → ReadsFrames (b ∷ bytes) (frames_from (reader_state Outside body) (b ∷ bytes))
unfolding frames_from
outside_read b bytes body later = by36 (b == 36) refl
  where
    by45 : (t : Bool) → (b == 45) ≡ t → (b == 43) ≡ false → (b == 36) ≡ false → OutsideRead bytes body b
    by45 true e n43 n36 = subst (OutsideRead bytes body) (sym (eqb-true b 45 e)) (ReadsFrames.again bytes _ (later Outside body tt))
    by45 false e n43 n36 =
        rw (n36, n43, e) (ReadsFrames.passed_over b bytes _ (eqb-false b 36 n36) (eqb-false b 43 n43) (eqb-false b 45 e) (later Outside body tt))

    by43 : (t : Bool) → (b == 43) ≡ t → (b == 36) ≡ false → OutsideRead bytes body b
    by43 true e n36 = subst (OutsideRead bytes body) (sym (eqb-true b 43 e)) (ReadsFrames.ack bytes _ (later Outside body tt))
    by43 false e n36 = by45 (b == 45) refl e n36

    by36 : (t : Bool) → (b == 36) ≡ t → OutsideRead bytes body b
    by36 true e = subst (OutsideRead bytes body) (sym (eqb-true b 36 e)) (later Inside [] (All-nil IsDataByte))
    by36 false e = by43 (b == 43) refl e

abbrev InsideRead : List ℕ → List ℕ → ℕ → Type 0
InsideRead bytes body b = ReadsFrames (36 ∷ (body ++ b ∷ bytes)) (frames_from (reader_state Inside body) (b ∷ bytes))

inside_read : (b : ℕ) (bytes body : List ℕ) → IsData body → Later bytes
    → ReadsFrames (36 ∷ (body ++ b ∷ bytes)) (frames_from (reader_state Inside body) (b ∷ bytes))
unfolding frames_from
inside_read b bytes body plain later = by36 (b == 36) refl
  where
    by35 : (t : Bool) → (b == 35) ≡ t → (b == 36) ≡ false → InsideRead bytes body b
    by35 true e n36 = subst (InsideRead bytes body) (sym (eqb-true b 35 e))
        (subst (λ l. ReadsFrames (36 ∷ l) (frames_from (reader_state Mark body) bytes)) (append_assoc body (35 ∷ []) bytes) (later Mark body plain))
    by35 false e n36 =
        let more : IsData (body ++ b ∷ []) = All-append IsDataByte body (b ∷ []) plain
        (All-cons IsDataByte b [] (eqb-false b 36 n36, eqb-false b 35 e) (All-nil IsDataByte)) in
        rw (n36, e) (subst (λ l. ReadsFrames (36 ∷ l) (frames_from (reader_state Inside (body ++ b ∷ [])) bytes)) (append_assoc body (b ∷ []) bytes)
        (later Inside (body ++ b ∷ []) more))

    by36 : (t : Bool) → (b == 36) ≡ t → InsideRead bytes body b
    by36 true e = subst (InsideRead bytes body) (sym (eqb-true b 36 e)) (ReadsFrames.anew body bytes _ plain (later Inside [] (All-nil IsDataByte)))
    by36 false e = by35 (b == 35) refl e

reads_items : (bytes : List ℕ) → Later bytes
unfolding frames_from
reads_items [] Outside body holds = ReadsFrames.nothing
reads_items [] Inside body holds = subst (λ l. ReadsFrames (36 ∷ l) []) (sym (append-nil body)) (ReadsFrames.cut_data body holds)
reads_items [] Mark body holds =
    subst (λ l. ReadsFrames (36 ∷ l) []) (sym (append-nil (body ++ 35 ∷ []))) (ReadsFrames.cut_checksum body holds)
reads_items [] (Digit c) body holds =
    subst (λ l. ReadsFrames (36 ∷ l) []) (sym (append-nil (body ++ 35 ∷ (c ∷ [])))) (ReadsFrames.cut_digit body c holds)
reads_items (b ∷ bytes) Outside body holds = outside_read b bytes body (reads_items bytes)
reads_items (b ∷ bytes) Inside body holds = inside_read b bytes body holds (reads_items bytes)
reads_items (b ∷ bytes) Mark body holds =
    subst (λ l. ReadsFrames (36 ∷ l) (frames_from (reader_state (Digit b) body) bytes))
    (append_assoc body (35 ∷ (b ∷ [])) bytes ∙ sym (append_assoc body (35 ∷ []) (b ∷ bytes)))
    (reads_items bytes (Digit b) body holds)
reads_items (b ∷ bytes) (Digit c) body holds =
    subst (λ l. ReadsFrames (36 ∷ l) (item_of (judged_packet body c b) body ∷ frames_from (reader_state Outside body) bytes))
    (sym (append_assoc body (35 ∷ (c ∷ [])) (b ∷ bytes)))
    (packet_read (judged_packet body c b) body c b bytes _ (judge_means body c b) holds (reads_items bytes Outside body tt))

-- the bytes of a packet's data are kept
data_byte : (b : ℕ) (body : List ℕ) → IsDataByte b → state_after (reader_state Inside body) b ≡ reader_state Inside (body ++ b ∷ [])
data_byte b body plain =
    let n36 : (b == 36) ≡ false = ne_eqb b 36 plain.0 in
    let n35 : (b == 35) ≡ false = ne_eqb b 35 plain.1 in
    rw (n36, n35) refl

through : (body before rest : List ℕ) → IsData body
    → frames_from (reader_state Inside before) (body ++ rest) ≡ frames_from (reader_state Inside (before ++ body)) rest
unfolding frames_from
through [] before rest plain = ap (λ l. frames_from (reader_state Inside l) rest) (sym (append-nil before))
through (b ∷ body) before rest plain =
    ap (λ s. frames_from s (body ++ rest)) (data_byte b before (All-head IsDataByte b body plain))
    ∙ through body (before ++ b ∷ []) rest (All-tail IsDataByte b body plain)
    ∙ ap (λ l. frames_from (reader_state Inside l) rest) (append_assoc before (b ∷ []) body)

outside_byte : (b : ℕ) (bytes body : List ℕ) → b ≢ 36 → b ≢ 43 → b ≢ 45
    → frames_from (reader_state Outside body) (b ∷ bytes) ≡ frames_from (reader_state Outside body) bytes
unfolding frames_from
outside_byte b bytes body no_36 no_43 no_45 =
    let n36 : (b == 36) ≡ false = ne_eqb b 36 no_36 in
    let n43 : (b == 43) ≡ false = ne_eqb b 43 no_43 in
    let n45 : (b == 45) ≡ false = ne_eqb b 45 no_45 in
    rw (n36, n43, n45) refl

-- what the grammar says is read
pub items_read : {bytes : List ℕ} {items : List FrameItem} → ReadsFrames bytes items → (before : List ℕ)
    → frames_from (reader_state Outside before) bytes ≡ items
unfolding frames_from
items_read ReadsFrames.nothing before = refl
items_read (ReadsFrames.ack bytes items r) before = ap (λ l. FrameItem.ack ∷ l) (items_read r before)
items_read (ReadsFrames.again bytes items r) before = ap (λ l. FrameItem.again ∷ l) (items_read r before)
items_read (ReadsFrames.passed_over b bytes items no_36 no_43 no_45 r) before =
    outside_byte b bytes before no_36 no_43 no_45 ∙ items_read r before
items_read (ReadsFrames.packet body c d bytes items plain check r) before =
    through body [] (35 ∷ (c ∷ (d ∷ bytes))) plain
    ∙ ap (λ f. item_of f body ∷ frames_from (reader_state Outside body) bytes) (as_packet _ body c d (judge_means body c d) check)
    ∙ ap (λ l. FrameItem.whole body ∷ l) (items_read r body)
items_read (ReadsFrames.bad_packet body c d bytes items plain wrong r) before =
    through body [] (35 ∷ (c ∷ (d ∷ bytes))) plain
    ∙ ap (λ f. item_of f body ∷ frames_from (reader_state Outside body) bytes) (as_bad _ body c d (judge_means body c d) wrong)
    ∙ ap (λ l. FrameItem.spoiled ∷ l) (items_read r body)
items_read (ReadsFrames.anew body bytes items plain r) before = through body [] (36 ∷ bytes) plain ∙ items_read r before
items_read (ReadsFrames.cut_data body plain) before =
    ap (λ l. frames_from (reader_state Inside []) l) (sym (append-nil body)) ∙ through body [] [] plain
items_read (ReadsFrames.cut_checksum body plain) before = through body [] (35 ∷ []) plain
items_read (ReadsFrames.cut_digit body c plain) before = through body [] (35 ∷ (c ∷ [])) plain

-- what is read is what the grammar says
pub reads_of : (bytes : List ℕ) → ReadsFrames bytes (frames_of bytes)
reads_of bytes = reads_items bytes Outside [] tt
