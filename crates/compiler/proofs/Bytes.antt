-- Instructions and their bytes: put one after another they are one run of bytes, and what is read from that run is the instructions.
use mathlib.Core.Path.{◌≡◌, refl, sym, ap, ◌∙◌}
use mathlib.Core.List.{List, [], ◌∷◌, ◌++◌, append_assoc}
use Prim.Native.Nat.{ℕ, suc, ◌+◌, ◌*◌, ◌/◌, ◌≤◌, ◌<◌}
use native.Mathlib.Omega.{arith}
use lib.ListN.{length, take, drop, length-append, length-drop}
use lib.Seq.{sets, sets-eq, take_at, drop_at, drop-drop}
use Rattle.code.specs.declared.Instr.{Instr}
use Rattle.code.specs.Encode.{encode, Encodable}
use Rattle.code.specs.Instructions.{decode_at, decode_from}
use Rattle.code.proofs.Laws.{encode-laws}
use Rattle.code.proofs.Parts.{decode-part}
use Rattle.compiler.specs.Compile.{encode_all}
use Rattle.draft.specs.private.Draft.{code_words, word_bytes}
use Rattle.compiler.proofs.Each.{Each, none, some}

eight-long : (i : Instr) → length (encode i) ≡ 8
eight-long i = refl

pub encoded-length : (c : List Instr) → length (encode_all c) ≡ 8 * length c
unfolding encode_all
encoded-length [] = refl
encoded-length (i ∷ c) = simp length-append (omega (arith, eight-long i, encoded-length c))

-- ---- writing
pub words-encoded : (c : List Instr) → word_bytes (code_words c) ≡ encode_all c
unfolding word_bytes encode_all
words-encoded [] = refl
words-encoded (i ∷ c) = ap (λ (l : List ℕ). encode i ++ l) (words-encoded c)

-- ---- reading
read-run : (s : List ℕ) (p : ℕ) {c : List Instr} (z : List ℕ) → Each Encodable c → drop (8 * p) s ≡ encode_all c ++ z → decode_from s p (length c) ≡ c
unfolding decode_from encode_all
read-run s p z none e = refl
read-run s p z (some {a = i} {l = c} h each) e =
    let whole : drop (8 * p) s ≡ encode i ++ (encode_all c ++ z) = e ∙ append_assoc (encode i) (encode_all c) z in
    let here : p < length s / 8 = omega (arith, eight-long i, length-drop (8 * p) s, simp length-append at (ap length whole)) in
    let front : take 8 (drop (8 * p) s) ≡ encode i = ap (take 8) whole ∙ take_at (encode i) (encode_all c ++ z) 8 (eight-long i) in
    let back : drop 8 (drop (8 * p) s) ≡ encode_all c ++ z = ap (drop 8) whole ∙ drop_at (encode i) (encode_all c ++ z) 8 (eight-long i) in
    let first : decode_at s p ≡ i = decode-part s p here ∙ ap (λ (l : List ℕ). decode_at l 0) front ∙ encode-laws.decoded i h in
    let later : 8 * suc p ≡ 8 * p + 8 = omega arith in
    let rest : drop (8 * suc p) s ≡ encode_all c ++ z = ap (λ (k : ℕ). drop k s) later ∙ sym (drop-drop 8 (8 * p) s) ∙ back in
    rw (first, read-run s (suc p) z each rest)

pub read_back : (s : List ℕ) {c : List Instr} → Each Encodable c → 8 * length c ≤ length s → decode_from (sets s 0 (encode_all c)) 0 (length c) ≡ c
read_back s {c} each h =
    let fits : 0 + length (encode_all c) ≤ length s = omega (arith, encoded-length c) in
    read-run (sets s 0 (encode_all c)) 0 (drop (0 + length (encode_all c)) s) each (sets-eq (encode_all c) s 0 fits)
