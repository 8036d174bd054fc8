-- A part of a table that is written at once, as by a copy or a fill of a slice, is swept. Assumes nothing.
use Rattle.std.specs.Prelude.{◌≡◌, List, ◌++◌, ℕ, ◌+◌, ◌-◌, ◌≤◌, ◌<◌, length, get_or, take, drop}
use Rattle.std.proofs.Common.{ap, ◌∙◌, arith, length-append, length-drop}
use Rattle.std.proofs.lemmas.List.{get_or_append_left, get_or-append_right, get_or-take, get_or-drop, length-take-le}
use Rattle.tables.specs.Sweep.{Swept}

module _ {A : Type 0} (d : A) (S : ℕ → A → A → Type 0) (base n : ℕ) (old part : List A) where
  pub swept_part : (k : ℕ) → k ≡ n → base + n ≤ length old → length part ≡ n → ((i : ℕ) → i < n → S i (get_or old (base + i) d) (get_or part i d))
      → Swept d S base n old (take base old ++ (part ++ drop k (drop base old)))
  swept_part k e room size at = rw e (record { len = len; inside = λ i l. rw (here i l) (at i l); below = below; above = above })
    where
      rest : List A
      rest = drop n (drop base old)

      new : List A
      new = take base old ++ (part ++ rest)

      first : length (take base old) ≡ base
      first = length-take-le base old (omega arith)

      len : length new ≡ length old
      len = omega (arith, length-append (take base old) (part ++ rest), length-append part rest, length-drop n (drop base old), length-drop base old, first)

      here : (i : ℕ) → i < n → get_or new (base + i) d ≡ get_or part i d
      here i l =
          let past : base + i - base ≡ i = omega arith in
          get_or-append_right (take base old) (part ++ rest) base (base + i) d first (omega arith)
          ∙ ap (λ j. get_or (part ++ rest) j d) past
          ∙ get_or_append_left part rest d i (omega arith)

      below : (j : ℕ) → j < base → get_or new j d ≡ get_or old j d
      below j l = get_or_append_left (take base old) (part ++ rest) d j (omega (arith, first)) ∙ get_or-take base old j d l

      above : (j : ℕ) → base + n ≤ j → get_or new j d ≡ get_or old j d
      above j l =
          let whole : base + (n + (j - base - n)) ≡ j = omega arith in
          get_or-append_right (take base old) (part ++ rest) base j d first (omega arith)
          ∙ get_or-append_right part rest n (j - base) d size (omega arith)
          ∙ get_or-drop n (drop base old) (j - base - n) d
          ∙ get_or-drop base old (n + (j - base - n)) d
          ∙ ap (λ i. get_or old i d) whole
