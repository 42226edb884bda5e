-- The four words of a replay's state after a call. Assumes nothing.
use mathlib.Core.Path.{◌≡◌, ap, subst, ◌∙◌}
use mathlib.Core.List.{List, [], ◌∷◌}
use Prim.Native.Nat.{ℕ}
use native.Mathlib.Nat.{zero-add}
use lib.ListN.{length}
use lib.Seq.{sets}
use Rattle.log_laws.specs.Replay.{CallWords, Called, replay_call}
use Rattle.log_replay.specs.declared.ReplayWords.{ReplayWords}
use Rattle.log_replay.specs.Replays.{call_words, CallGives}
use Rattle.formula_c.specs.Replay.{words_given, replay_words}

four : {c : Called} {m out new : List ℕ} {x : ReplayWords} → CallGives c m out new x → x.at ∷ x.tick ∷ x.done ∷ x.written ∷ [] ≡ replay_words c
four {c} {m} {out} {new} {x} g =
    ap (λ (w : CallWords). w.at ∷ w.tick ∷ w.done ∷ x.written ∷ []) g.words
    ∙ ap (λ (n : ℕ). c.words.at ∷ c.words.tick ∷ c.words.done ∷ n ∷ []) (g.written.end ∙ zero-add (length c.text))

-- what a call returns and leaves, as the definition has it
pub leaves : (file log m out s : List ℕ) (w : ReplayWords) → call_words w ≡ words_given s → {m' new : List ℕ} {x : ReplayWords}
    → CallGives (replay_call file log m (length out) (call_words w)) m' out new x → let c = replay_call file log m (length out) (words_given s) in
    (x.at ∷ x.tick ∷ x.done ∷ x.written ∷ [] ≡ replay_words c) × ((m' ≡ c.memory) × (new ≡ sets out 0 c.text))
leaves file log m out s w e {m'} {new} {x} g =
    let h : CallGives (replay_call file log m (length out) (words_given s)) m' out new x =
    subst (λ (v : CallWords). CallGives (replay_call file log m (length out) v) m' out new x) e g in
    (four h, (h.image, h.written.bytes))
