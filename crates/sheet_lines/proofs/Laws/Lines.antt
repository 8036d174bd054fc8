-- A line from its parts. Assumes nothing.
use Rattle.std.specs.Prelude.{◌≡◌, refl, List, [], ◌∷◌, ◌++◌, ℕ}
use Rattle.std.proofs.Common.{sym, ap, ◌∙◌, append_assoc}
use Rattle.model.specs.Sheet.{decimal, spaced, line, accepted_line, total_line}
use Rattle.sheet_lines.specs.Append.{Split}
use Rattle.sheet_lines.specs.Lines.{start, spaced_parts, line_parts, accepted_parts, total_parts}

pub spaced_parts_lem : (n : ℕ) → Split (spaced_parts n) (spaced (n ∷ []))
spaced_parts_lem n = record { same = refl }

pub spaced_append : (ms ns : List ℕ) → spaced ms ++ spaced ns ≡ spaced (ms ++ ns)
spaced_append [] ns = refl
spaced_append (m ∷ ms) ns =
    ap (λ (l : List ℕ). 32 ∷ l) (append_assoc (decimal m) (spaced ms) (spaced ns) ∙ ap (λ (l : List ℕ). decimal m ++ l) (spaced_append ms ns))

pub line_parts_lem : (letter n : ℕ) (ns : List ℕ) → Split (line_parts letter n ns) (line letter (n ∷ ns))
line_parts_lem letter n ns =
    record {
      same = sym (append_assoc (start letter n) (spaced ns) (10 ∷ []))
          ∙ ap (λ (l : List ℕ). letter ∷ l ++ (10 ∷ [])) (spaced_append (n ∷ []) ns);
    }

pub accepted_parts_lem : (k s r : ℕ) → Split (accepted_parts k s r) (accepted_line k s r)
accepted_parts_lem k s r =
    let numbers : spaced (s ∷ []) ++ (spaced (r ∷ []) ++ (10 ∷ [])) ≡ spaced (s ∷ r ∷ []) ++ (10 ∷ []) =
    sym (append_assoc (spaced (s ∷ [])) (spaced (r ∷ [])) (10 ∷ [])) ∙ ap (λ (l : List ℕ). l ++ (10 ∷ [])) (spaced_append (s ∷ []) (r ∷ [])) in
    record { same = ap (λ (l : List ℕ). start 97 k ++ l) numbers ∙ (line_parts_lem 97 k (s ∷ r ∷ [])).same }

pub total_parts_lem : (total : ℕ) → Split (total_parts total) (total_line total)
total_parts_lem total = record { same = refl }
