-- What a salvage returns, and both lent buffers afterwards.
use Rattle.std.specs.Prelude.{List, ℕ, length}
use Rattle.std.proofs.lemmas.List.Edits.{sets}
use Rattle.salvage_laws.specs.Salvage.{Salvage, rescued, unfit}
use Rattle.card_salvage.specs.declared.Salvaged.{Salvaged}

abbrev pub salvaged_in : Salvage → Salvaged
salvaged_in (rescued k n) = record { answer = 0; kept = length k; named = length n }
salvaged_in unfit = record { answer = 10; kept = 0; named = 0 }

abbrev pub kept_after : List ℕ → Salvage → List ℕ
kept_after out (rescued k n) = sets out 0 k
kept_after out unfit = out

abbrev pub named_after : List ℕ → Salvage → List ℕ
named_after out (rescued k n) = sets out 0 n
named_after out unfit = out
