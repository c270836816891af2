-- Reading undoes writing, and writing undoes reading, for each body of a message.
use Rattle.std.specs.Prelude.{Some}
use Prim.Native.Nat.{ℕ, ◌+◌, ◌≤◌, ◌<◌}
use native.Mathlib.Nat.{le_of_eq}
use native.Mathlib.Omega.{arith}
use mathlib.Core.Bool.{true}
use mathlib.Core.Path.{◌≡◌, refl, ap, ap₂, sym, subst, ◌∙◌}
use mathlib.Core.List.{List, [], ◌∷◌, ◌++◌, append-nil}
use borrow.Author.Tests.{le-ltb, le-leb, ne_eqb}
use lib.ListN.{length, get_or, take, drop, take-append-drop, drop_of_length-le}
use lib.Seq.{take-add, take_all, drop-cons, drop-drop}
use Rattle.wire.specs.Bytes.{bytes_of, number_at, AreBytes}
use Rattle.wire.specs.Message.{header_bytes, header_in, encode, parse, saying, train_in, longest}
use Rattle.wire.specs.Writing.{carries}
use Rattle.wire.specs.Claims.{Fits, BodyFits, carried}
use Rattle.wire.specs.declared.message.Header.{Header}
use Rattle.wire.specs.declared.message.Body.{Body}
use Rattle.wire.specs.declared.message.Body.TheVariants.{OffsetStart, OffsetAnsw1, OffsetAnsw2, OffsetEst, OffsetEnd, LifeSign, TrainData}
use Rattle.wire.specs.declared.message.Message.{Message}
use Rattle.wire.proofs.Carrying.{carried_is}
use Rattle.wire.proofs.Parsing.{ReadsAs, reads_as}
use Rattle.wire.proofs.Digits.{read_writes, number_lt}
use Rattle.wire.proofs.Fields.{field_reads, header_reads, header_writes}

-- ---- what is written reads back

abbrev pub said : Header → Body → Message
said h b = record { header = h; body = b }

abbrev pub Back : Message → List ℕ → Type 0
Back m d = (parse (encode m d) ≡ Some m) × (carried m.body (train_in (encode m d)) ≡ carried m.body d)

-- bytes of kind 6 that end within the longest data are train data
train_data_reads : (s : List ℕ) → 16 < length s → length s ≤ 16 + longest → get_or s 0 0 ≡ 6 → get_or s 15 0 ≡ 3
    → parse s ≡ saying s TrainData
unfolding parse
train_data_reads s more less kind tag =
    let a = le-ltb (length s) 15 (omega arith) in
    let b = le-ltb (length s) 16 (omega arith) in
    let c = ne_eqb (length s) 16 (λ (e : length s ≡ 16). omega arith) in
    let d = le-leb (length s) (16 + longest) less in
    rw (a, kind, b, c, d, tag)

-- the header of any message reads back
same_header : (kind : ℕ) (h : Header) (b : Body) (q : List ℕ) → Fits (said h b) → header_in (header_bytes kind h ++ q) ≡ h
same_header kind h b q f = header_reads kind h q f.number f.sent f.echo f.receipt

pub reads_body : (h : Header) (b : Body) (d : List ℕ) → Fits (said h b) → carries b d ≡ true → Back (said h b) d
unfolding encode header_bytes parse
reads_body h OffsetStart d f ok = (ap (λ (x : Header). Some (said x OffsetStart)) (same_header 1 h OffsetStart [] f), refl)
reads_body h OffsetAnsw1 d f ok = (ap (λ (x : Header). Some (said x OffsetAnsw1)) (same_header 2 h OffsetAnsw1 [] f), refl)
reads_body h OffsetAnsw2 d f ok = (ap (λ (x : Header). Some (said x OffsetAnsw2)) (same_header 3 h OffsetAnsw2 [] f), refl)
reads_body h (OffsetEst mn mx) d f ok =
    let s = encode (said h (OffsetEst mn mx)) d in
    let a : number_at 4 s 15 ≡ mn.0 = field_reads 4 mn.0 s 15 f.body.0 refl in
    let b : number_at 4 s 19 ≡ mx.0 = field_reads 4 mx.0 s 19 f.body.1 refl in
    let c : header_in s ≡ h = same_header 4 h (OffsetEst mn mx) (bytes_of 4 mn.0 ++ bytes_of 4 mx.0) f in
    (λ i. Some (said (c i) (OffsetEst (record { 0 = a i }) (record { 0 = b i }))), refl)
reads_body h OffsetEnd d f ok = (ap (λ (x : Header). Some (said x OffsetEnd)) (same_header 5 h OffsetEnd [] f), refl)
reads_body h LifeSign d f ok = (ap (λ (x : Header). Some (said x LifeSign)) (same_header 6 h LifeSign (2 ∷ []) f), refl)
reads_body h TrainData d f ok =
    let is = carried_is d ok in (
      train_data_reads (encode (said h TrainData) d) (omega arith) (omega arith) refl refl
          ∙ ap (λ (x : Header). Some (said x TrainData)) (same_header 6 h TrainData (3 ∷ d) f),
      refl,
    )

-- whatever its fields, a message that can be carried is written as bytes that read as some message
pub encode_parses : (h : Header) (b : Body) (d : List ℕ) → carries b d ≡ true → (m : Message) × (parse (encode (said h b) d) ≡ Some m)
unfolding encode header_bytes parse
encode_parses h OffsetStart d ok = (_, refl)
encode_parses h OffsetAnsw1 d ok = (_, refl)
encode_parses h OffsetAnsw2 d ok = (_, refl)
encode_parses h (OffsetEst mn mx) d ok = (_, refl)
encode_parses h OffsetEnd d ok = (_, refl)
encode_parses h LifeSign d ok = (_, refl)
encode_parses h TrainData d ok =
    let fits = carried_is d ok in
    (_, train_data_reads (encode (said h TrainData) d) (omega arith) (omega arith) refl refl)

-- ---- what is read would be written

module _ (s : List ℕ) (bytes : AreBytes s) (long : 15 ≤ length s) where
  read_fits : (b : Body) → BodyFits b → Fits (said (header_in s) b)
  read_fits b fits =
      record {
        number = number_lt 2 s 1 bytes;
        sent = number_lt 4 s 3 bytes;
        echo = number_lt 4 s 7 bytes;
        receipt = number_lt 4 s 11 bytes;
        body = fits;
      }

  same_bare : (kind : ℕ) → get_or s 0 0 ≡ kind → length s ≡ 15 → header_bytes kind (header_in s) ++ [] ≡ s
  same_bare kind first len =
      append-nil (header_bytes kind (header_in s)) ∙ header_writes kind s bytes long first ∙ take_all 15 s (le_of_eq len)

  same_offsets : get_or s 0 0 ≡ 4 → length s ≡ 23
      → header_bytes 4 (header_in s) ++ (bytes_of 4 (number_at 4 s 15) ++ bytes_of 4 (number_at 4 s 19)) ≡ s
  same_offsets first len =
      ap₂ (λ (a b : List ℕ). a ++ b) (header_writes 4 s bytes long first)
      (ap₂ (λ (a b : List ℕ). a ++ b) (read_writes 4 s 15 bytes (omega arith)) (read_writes 4 s 19 bytes (omega arith))
      ∙ ap (λ (l : List ℕ). take 4 (drop 15 s) ++ take 4 l) (sym (drop-drop 4 15 s))
      ∙ sym (take-add 4 4 (drop 15 s)))
      ∙ sym (take-add 15 8 s)
      ∙ take_all 23 s (le_of_eq len)

  same_payload : (tag : ℕ) → get_or s 0 0 ≡ 6 → 16 ≤ length s → get_or s 15 0 ≡ tag
      → header_bytes 6 (header_in s) ++ (tag ∷ drop 16 s) ≡ s
  same_payload tag first len second =
      ap (λ (l : List ℕ). l ++ (tag ∷ drop 16 s)) (header_writes 6 s bytes long first)
      ∙ ap (λ (l : List ℕ). take 15 s ++ l)
      (ap (λ (k : ℕ). k ∷ drop 16 s) (sym second) ∙ sym (drop-cons s 15 0 len))
      ∙ take-append-drop 15 s

same_body : (s : List ℕ) → AreBytes s → (b : Body) → ReadsAs s b
    → BodyFits b × (encode (said (header_in s) b) (train_in s) ≡ s)
unfolding encode
same_body s bytes OffsetStart r = (tt, same_bare s bytes (omega arith) 1 r.0 r.1)
same_body s bytes OffsetAnsw1 r = (tt, same_bare s bytes (omega arith) 2 r.0 r.1)
same_body s bytes OffsetAnsw2 r = (tt, same_bare s bytes (omega arith) 3 r.0 r.1)
same_body s bytes (OffsetEst minimum maximum) r = (
  (rw r.2 (number_lt 4 s 15 bytes), rw r.3 (number_lt 4 s 19 bytes)),
  rw (r.2, r.3) (same_offsets s bytes (omega arith) r.0 r.1),
)
same_body s bytes OffsetEnd r = (tt, same_bare s bytes (omega arith) 5 r.0 r.1)
same_body s bytes LifeSign r = (
  tt,
  ap (λ (l : List ℕ). header_bytes 6 (header_in s) ++ (2 ∷ l)) (sym (drop_of_length-le s (le_of_eq r.1)))
      ∙ same_payload s bytes (omega arith) 2 r.0 (omega arith) r.2,
)
same_body s bytes TrainData r = (tt, same_payload s bytes (omega arith) 3 r.0 (omega arith) r.3)

reads_long : (s : List ℕ) (b : Body) → ReadsAs s b → 15 ≤ length s
reads_long s OffsetStart r = omega arith
reads_long s OffsetAnsw1 r = omega arith
reads_long s OffsetAnsw2 r = omega arith
reads_long s (OffsetEst minimum maximum) r = omega arith
reads_long s OffsetEnd r = omega arith
reads_long s LifeSign r = omega arith
reads_long s TrainData r = omega arith

pub undone : (s : List ℕ) (m : Message) → AreBytes s → parse s ≡ Some m → Fits m × (encode m (train_in s) ≡ s)
undone s m bytes e =
    let i = reads_as s m e in
    let same = same_body s bytes m.body i.1 in
    subst (λ (h : Header). Fits (said h m.body) × (encode (said h m.body) (train_in s) ≡ s)) (sym i.0)
    (read_fits s bytes (reads_long s m.body i.1) m.body same.0, same.1)
