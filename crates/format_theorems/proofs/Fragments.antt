-- Pieces of a text: bytes that stand at a place and are tokens with kept spellings, whatever follows that does not go on with them; one behind the other.
use mathlib.Core.Path.{◌≡◌, refl, sym, ap, subst, ◌∙◌}
use mathlib.Core.Bool.{Bool, true, false, cond}
use mathlib.Core.List.{List, [], ◌∷◌, ◌++◌, append_assoc, append-nil}
use Prim.Native.Nat.{ℕ, suc, ◌+◌, ◌-◌, ◌<◌}
use native.Mathlib.Omega.{arith}
use lib.Dec.{eqb, ltb}
use lib.ListN.{length, length-append}
use borrow.Author.Tests.{eqb-true, ltb-true, ltb-false}
use Rattle.words.specs.Ascii.{byte, ascii}
use Rattle.tokens.specs.declared.Token.{Token}
use Rattle.tokens.specs.declared.Token.TheVariants.{Symbol}
use Rattle.tokens.specs.Symbols.{symbol_count, symbol_bytes, longest}
use Rattle.tokens.specs.Scan.{Tok}
use Rattle.tokens.specs.Theorems.{Stops, nothing, other, LongestMatch}
use Rattle.tokens.proofs.Below.{below, below_at}
use Rattle.tokens.proofs.symbols.Longest.{most}
use Rattle.grammar.specs.Symbols.{group_number, minus, tilde, bang, open_paren, close_paren, open_index, close_index, comma, prefix_symbol, is, none as empty}
use Rattle.grammar.specs.Grammar.{tok}
use Rattle.operators.specs.declared.UnaryOp.{UnaryOp}
use Rattle.operators.specs.declared.UnaryOp.TheVariants as U
use Rattle.tree_code.proofs.Nodes.{no-group}
use Rattle.format_theorems.proofs.Lexemes.{continues, is_no_symbol, Spells}
use Rattle.format_theorems.proofs.Lexed.{kept, Lexed, blank, sign, piece}

-- the bytes x at p are the tokens ts with the kept spellings ys, before bytes the first of which is not of the class
pub record Fragment (class : ℕ → Bool) (p : ℕ) (x : List ℕ) (ts : List Tok) (ys : List (List ℕ)) : Type 0 where
  pub lexes : (rest : List ℕ) (z : List Tok) (zs : List (List ℕ)) → Stops class rest → Lexed (p + length x) rest z zs → Lexed p (x ++ rest) (ts ++ z) (ys ++ zs)

-- a class that every byte is outside of
abbrev pub none : ℕ → Bool
none c = false

pub none-stops : (r : List ℕ) → Stops none r
none-stops [] = nothing
none-stops (c ∷ cs) = other refl

pub joined : {a b : ℕ → Bool} {p : ℕ} {x y : List ℕ} {ts us : List Tok} {ys vs : List (List ℕ)} → Fragment a p x ts ys → Fragment b (p + length x) y us vs
    → ((rest : List ℕ) → Stops b rest → Stops a (y ++ rest)) → Fragment b p (x ++ y) (ts ++ us) (ys ++ vs)
joined {a} {b} {p} {x} {y} {ts} {us} {ys} {vs} f g follows =
    record {
      lexes = λ rest z zs st h.
          let e : p + length (x ++ y) ≡ p + length x + length y = omega (arith, length-append x y) in
          let k = f.lexes (y ++ rest) (us ++ z) (vs ++ zs) (follows rest st) (g.lexes rest z zs st (subst (λ (i : ℕ). Lexed i rest z zs) e h)) in
          let l = subst (λ (i : List ℕ). Lexed p i (ts ++ (us ++ z)) (ys ++ (vs ++ zs))) (sym (append_assoc x y rest)) k in
          let m = subst (λ (i : List Tok). Lexed p ((x ++ y) ++ rest) i (ys ++ (vs ++ zs))) (sym (append_assoc ts us z)) l in
          subst (λ (i : List (List ℕ)). Lexed p ((x ++ y) ++ rest) ((ts ++ us) ++ z) i) (sym (append_assoc ys vs zs)) m;
    }

pub spelled_as : {a : ℕ → Bool} {p : ℕ} {x : List ℕ} {ts : List Tok} {ys vs : List (List ℕ)} → ys ≡ vs → Fragment a p x ts ys → Fragment a p x ts vs
spelled_as {a} {p} {x} {ts} e f = subst (Fragment a p x ts) e f

pub text-as : {a : ℕ → Bool} {p : ℕ} {x y : List ℕ} {ts : List Tok} {ys : List (List ℕ)} → x ≡ y → Fragment a p x ts ys → Fragment a p y ts ys
text-as {a} {p} {ts = ts} {ys = ys} e f = subst (λ (i : List ℕ). Fragment a p i ts ys) e f

-- where what follows keeps no spelling
pub joined-silent : {a b : ℕ → Bool} {p : ℕ} {x y : List ℕ} {ts us : List Tok} {ys : List (List ℕ)} → Fragment a p x ts ys → Fragment b (p + length x) y us []
    → ((rest : List ℕ) → Stops b rest → Stops a (y ++ rest)) → Fragment b p (x ++ y) (ts ++ us) ys
joined-silent {ys = ys} f g follows = spelled_as (append-nil ys) (joined f g follows)

-- ---- one token
pub spelled : {t : Token} {w : List ℕ} (p : ℕ) → is_no_symbol t ≡ true → Spells t w → Fragment continues p w (tok t p ∷ []) (kept t w)
spelled {t} {w} p n s = record { lexes = λ rest z zs st h. piece w n s st h }

pub signed : (class : ℕ → Bool) (n p : ℕ) → ((r : List ℕ) → Stops class r → LongestMatch n r) → Fragment class p (symbol_bytes n) (tok (Symbol n) p ∷ []) []
signed class n p m = record { lexes = λ rest z zs st h. sign n (m rest st) h }

-- ---- the longest match, by computing
match : (n : ℕ) (r : List ℕ) → n < symbol_count → longest (symbol_bytes n ++ r) ≡ n → LongestMatch n r
match n r h e =
    record { known = h; most = λ m l y. omega (arith, most m l y.0, ap (λ (i : ℕ). length (symbol_bytes i)) (ap longest (sym y.1) ∙ e)) }

any_open : (r : List ℕ) → longest (byte "(" ∷ r) ≡ open_paren
any_open [] = refl
any_open (c ∷ cs) = refl

any-close : (r : List ℕ) → longest (byte ")" ∷ r) ≡ close_paren
any-close [] = refl
any-close (c ∷ cs) = refl

any-open-index : (r : List ℕ) → longest (byte "[" ∷ r) ≡ open_index
any-open-index [] = refl
any-open-index (c ∷ cs) = refl

any-close-index : (r : List ℕ) → longest (byte "]" ∷ r) ≡ close_index
any-close-index [] = refl
any-close-index (c ∷ cs) = refl

any-comma : (r : List ℕ) → longest (byte "," ∷ r) ≡ comma
any-comma [] = refl
any-comma (c ∷ cs) = refl

any-minus : (r : List ℕ) → longest (byte "-" ∷ r) ≡ minus
any-minus [] = refl
any-minus (c ∷ cs) = refl

any-tilde : (r : List ℕ) → longest (byte "~" ∷ r) ≡ tilde
any-tilde [] = refl
any-tilde (c ∷ cs) = refl

-- `!` might go on with `=` alone
abbrev pub is_equals : ℕ → Bool
is_equals c = eqb (byte "=") c

bang-next : (c : ℕ) (cs : List ℕ) → is_equals c ≡ false → longest (byte "!" ∷ c ∷ cs) ≡ bang
bang-next c [] e = rw e
bang-next c (d ∷ cs) e = rw e

bang-stops : (r : List ℕ) → Stops is_equals r → longest (byte "!" ∷ r) ≡ bang
bang-stops [] nothing = refl
bang-stops (c ∷ cs) (other e) = bang-next c cs e

pub opening : (class : ℕ → Bool) (p : ℕ) → Fragment class p (ascii "(") (tok (Symbol open_paren) p ∷ []) []
opening class p = signed class open_paren p (λ r st. match open_paren r (omega arith) (any_open r))

pub closing : (class : ℕ → Bool) (p : ℕ) → Fragment class p (ascii ")") (tok (Symbol close_paren) p ∷ []) []
closing class p = signed class close_paren p (λ r st. match close_paren r (omega arith) (any-close r))

pub opening-index : (class : ℕ → Bool) (p : ℕ) → Fragment class p (ascii "[") (tok (Symbol open_index) p ∷ []) []
opening-index class p = signed class open_index p (λ r st. match open_index r (omega arith) (any-open-index r))

pub closing-index : (class : ℕ → Bool) (p : ℕ) → Fragment class p (ascii "]") (tok (Symbol close_index) p ∷ []) []
closing-index class p = signed class close_index p (λ r st. match close_index r (omega arith) (any-close-index r))

-- a comma and a space
pub separator : (class : ℕ → Bool) (p : ℕ) → Fragment class p (ascii ", ") (tok (Symbol comma) p ∷ []) []
separator class p =
    record {
      lexes = λ rest z zs st h.
          let e : p + 2 ≡ suc (p + 1) = omega arith in
          sign comma (match comma (byte " " ∷ rest) (omega arith) (any-comma (byte " " ∷ rest))) (blank (subst (λ (i : ℕ). Lexed i rest z zs) e h));
    }

-- a prefix before its operand
prefix-match : (n : ℕ) (o : UnaryOp) → prefix_symbol n ≡ is o → (r : List ℕ) → Stops is_equals r → LongestMatch n r
prefix-match n o e r st = go (eqb n minus) (eqb n tilde) (eqb n bang) refl refl refl e
  where
    known : (m : ℕ) → eqb n m ≡ true → LongestMatch m r → LongestMatch n r
    known m q h = subst (λ (i : ℕ). LongestMatch i r) (sym (eqb-true n m q)) h

    go : (x y z : Bool) → eqb n minus ≡ x → eqb n tilde ≡ y → eqb n bang ≡ z
        → cond x (is U.Neg) (cond y (is U.Complement) (cond z (is U.Not) empty)) ≡ is o → LongestMatch n r
    go true y z p q l e = known minus p (match minus r (omega arith) (any-minus r))
    go false true z p q l e = known tilde q (match tilde r (omega arith) (any-tilde r))
    go false false true p q l e = known bang l (match bang r (omega arith) (bang-stops r st))
    go false false false p q l e = let z : ◌≡◌ {A = ℕ} 0 1 = cc in absurd (omega arith)

pub prefixing : (n p : ℕ) (o : UnaryOp) → prefix_symbol n ≡ is o → Fragment is_equals p (symbol_bytes n) (tok (Symbol n) p ∷ []) []
prefixing n p o e = signed is_equals n p (prefix-match n o e)

-- a binary operator between spaces: no symbol goes on with one
spaced : List ℕ → ℕ → Bool
spaced r n = eqb (longest (symbol_bytes n ++ (byte " " ∷ r))) n

all-spaced : (r : List ℕ) → below symbol_count (spaced r) ≡ true
unfolding below spaced
all-spaced r = refl

infix-match : (n l : ℕ) (r : List ℕ) → group_number n ≡ suc l → LongestMatch n (byte " " ∷ r)
unfolding spaced
infix-match n l r e = go (ltb n symbol_count) refl
  where
    go : (x : Bool) → ltb n symbol_count ≡ x → LongestMatch n (byte " " ∷ r)
    go true q =
        match n (byte " " ∷ r) (ltb-true n symbol_count q)
        (eqb-true (longest (symbol_bytes n ++ (byte " " ∷ r))) n (below_at (spaced r) symbol_count n (all-spaced r) (ltb-true n symbol_count q)))
    go false q = absurd (omega (arith, no-group n (ltb-false n symbol_count q)))

pub operating : (class : ℕ → Bool) (n l p : ℕ) → group_number n ≡ suc l
    → Fragment class p (ascii " " ++ (symbol_bytes n ++ ascii " ")) (tok (Symbol n) (suc p) ∷ []) []
operating class n l p e =
    record {
      lexes = λ rest z zs st h.
          let i : p + length (ascii " " ++ (symbol_bytes n ++ ascii " ")) ≡ suc (suc p + length (symbol_bytes n)) =
          omega (arith, length-append (symbol_bytes n) (ascii " ")) in
          let k : Lexed (suc p) (symbol_bytes n ++ (byte " " ∷ rest)) (tok (Symbol n) (suc p) ∷ z) zs =
          sign n (infix-match n l rest e) (blank (subst (λ (j : ℕ). Lexed j rest z zs) i h)) in
          blank (subst (λ (j : List ℕ). Lexed (suc p) j (tok (Symbol n) (suc p) ∷ z) zs) (sym (append_assoc (symbol_bytes n) (ascii " ") rest)) k);
    }
