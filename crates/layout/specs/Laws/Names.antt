-- WHAT IS WRITTEN OF A NAME IS READ THERE, and the other name is as it was. Assumes nothing.
use Rattle.std.specs.Prelude.{◌≡◌, refl, List, [], ◌∷◌, ◌++◌, ◌⊎◌, ℕ, zero, suc, ◌+◌, ◌-◌, ◌≤◌, ◌<◌, length, get_or, set, replicate, take, drop}
use Rattle.std.proofs.Common.{sym, ap, ◌∙◌, inl, inr, ⊎_elim, eq-or-lt_of_le, le_of_suc-le-suc, add-one, arith, length-append, length-set, length-take-le, length-drop, get_or-take, get_or-drop, get_or-set_same, get_or-set_other, ext_get_or, ne_eqb, lt-ltb, le-ltb}
use Rattle.std.proofs.Math.ListN.{get_or-append}
use Rattle.std.proofs.Math.Seq.{get_or-append_seam}
use Rattle.layout.specs.declared.value.Heads.{Heads}
use Rattle.layout.specs.Value.{fresh_heads}
use Rattle.layout.specs.Names.{Mark, no_mark, name_length, names_length, name_start, name_byte, written, listed, bytes_from, mark_under, with_mark_under, no_names}
use Rattle.layout.specs.Memory.{Filled}
use Rattle.layout.specs.Laws.Memory.{filled, filled_is}
use Rattle.tables.specs.Laws.Facts.{lt_or_le}

-- bytes written one by one
module _ (f : ℕ → ℕ) (at : ℕ) where
  pub written_size : (n : ℕ) (l : List ℕ) → length (written f at n l) ≡ length l
  written_size zero l = refl
  written_size (suc n) l = length-set (written f at n l) (at + n) (f n) ∙ written_size n l

  pub written_in : (n : ℕ) (l : List ℕ) → at + n ≤ length l → (i : ℕ) → i < n → get_or (written f at n l) (at + i) 0 ≡ f i
  written_in zero l fits i h = absurd (omega arith)
  written_in (suc n) l fits i h = go (λ lt. written_in n l (omega arith) i lt) (eq-or-lt_of_le (le_of_suc-le-suc h))
    where
      go : (i < n → get_or (written f at n l) (at + i) 0 ≡ f i) → (i ≡ n) ⊎ (i < n) → get_or (set (written f at n l) (at + n) (f n)) (at + i) 0 ≡ f i
      go before (inl e) = rw e (get_or-set_same (written f at n l) (at + n) (f n) 0 (omega (arith, written_size n l)))
      go before (inr lt) = get_or-set_other (written f at n l) (at + n) (at + i) (f n) 0 (λ e. omega arith) ∙ before lt

  pub written_out : (n : ℕ) (l : List ℕ) (j : ℕ) → (j < at) ⊎ (at + n ≤ j) → get_or (written f at n l) j 0 ≡ get_or l j 0
  written_out zero l j apart = refl
  written_out (suc n) l j apart =
      get_or-set_other (written f at n l) (at + n) j (f n) 0 (λ e. ⊎_elim (λ (h : j < at). omega arith) (λ (h : at + suc n ≤ j). omega arith) apart)
      ∙ written_out n l j (⊎_elim (λ h. inl h) (λ (h : at + suc n ≤ j). inr (omega arith)) apart)

-- as a loop writes them
pub written_more : (f : ℕ → ℕ) (at n : ℕ) (l new : List ℕ) (v : ℕ) → new ≡ written f at n l → v ≡ f n → set new (at + n) v ≡ written f at (n + 1) l
written_more f at n l new v is e = rw (is, e) (sym (ap (λ (k : ℕ). written f at k l) (add-one n)))

pub mark_written : (names : List ℕ) (name : ℕ) (m : Mark) (start i : ℕ) (new : List ℕ) → start ≡ name_start name → i ≤ name_length → name_length ≤ i
    → new ≡ written (name_byte m) start i names → new ≡ with_mark_under names name m
unfolding with_mark_under
mark_written names name m start i new e most least is =
    let all : i ≡ name_length = omega arith in
    is ∙ ap (λ (k : ℕ). written (name_byte m) start k names) all ∙ ap (λ (k : ℕ). written (name_byte m) k name_length names) e

-- numbers in a list
pub listed_size : (f : ℕ → ℕ) (n : ℕ) → length (listed f n) ≡ n
listed_size f zero = refl
listed_size f (suc n) = length-append (listed f n) (f n ∷ []) ∙ omega (arith, listed_size f n)

pub listed_at : (f : ℕ → ℕ) (n j : ℕ) → j < n → get_or (listed f n) j 0 ≡ f j
listed_at f zero j h = absurd (omega arith)
listed_at f (suc n) j h = go (λ lt. listed_at f n j lt) (eq-or-lt_of_le (le_of_suc-le-suc h))
  where
    go : (j < n → get_or (listed f n) j 0 ≡ f j) → (j ≡ n) ⊎ (j < n) → get_or (listed f n ++ (f n ∷ [])) j 0 ≡ f j
    go before (inl e) =
        let last : j ≡ length (listed f n) = e ∙ sym (listed_size f n) in
        ap (λ (i : ℕ). get_or (listed f n ++ (f n ∷ [])) i 0) last ∙ get_or-append_seam (listed f n) (f n) [] 0 ∙ ap f (sym e)
    go before (inr lt) = get_or-append (listed f n) (f n ∷ []) 0 j (omega (arith, listed_size f n)) ∙ before lt

-- a list whose bytes those are
pub listed_is : (f : ℕ → ℕ) (n : ℕ) (l : List ℕ) → length l ≡ n → ((j : ℕ) → j < n → get_or l j 0 ≡ f j) → l ≡ listed f n
listed_is f n l size each =
    ext_get_or 0 l (listed f n) (size ∙ sym (listed_size f n)) (λ j h. let lt : j < n = omega arith in each j lt ∙ sym (listed_at f n j lt))

-- the bytes from a place on, taken at once
pub bytes_taken : (names : List ℕ) (at n : ℕ) → at + n ≤ length names → take n (drop at names) ≡ bytes_from names at n
bytes_taken names at n fits =
    listed_is (λ i. get_or names (at + i) 0) n (take n (drop at names)) (length-take-le n (drop at names) (omega (arith, length-drop at names)))
    (λ j h. get_or-take n (drop at names) j 0 h ∙ get_or-drop at names j 0)

-- the bytes of a name, field by field
module _ (m : Mark) (i : ℕ) where
  kept_byte_lem : name_byte m 0 ≡ m.kept
  kept_byte_lem = refl

  counts_byte : i < 32 → name_byte m (1 + i) ≡ get_or m.heads.counts i 0
  counts_byte h =
      let e : 1 + i - 1 ≡ i = omega arith in
      rw (ne_eqb (1 + i) 0 (λ z. omega arith), lt-ltb (1 + i) 33 (omega arith), e) refl

  arity_byte : i < 64 → name_byte m (33 + i) ≡ get_or m.heads.arity i 0
  arity_byte h =
      let e : 33 + i - 33 ≡ i = omega arith in
      rw (ne_eqb (33 + i) 0 (λ z. omega arith), le-ltb (33 + i) 33 (omega arith), lt-ltb (33 + i) 97 (omega arith), e) refl

  scope_byte : i < 256 → name_byte m (97 + i) ≡ get_or m.heads.scope i 0
  scope_byte h =
      let e : 97 + i - 97 ≡ i = omega arith in
      rw (ne_eqb (97 + i) 0 (λ z. omega arith), le-ltb (97 + i) 33 (omega arith), le-ltb (97 + i) 97 (omega arith), lt-ltb (97 + i) 353 (omega arith), e) refl

  lengths_byte : i < 64 → name_byte m (353 + i) ≡ get_or m.heads.lengths i 0
  lengths_byte h =
      let e : 353 + i - 353 ≡ i = omega arith in
      rw (ne_eqb (353 + i) 0 (λ z. omega arith), le-ltb (353 + i) 33 (omega arith), le-ltb (353 + i) 97 (omega arith), le-ltb (353 + i) 353 (omega arith), e) refl

-- heads whose fields have their lengths
pub record HeadsSized (h : Heads) : Type 0 where
  pub counts_size : length h.counts ≡ 32
  pub arity_size : length h.arity ≡ 64
  pub scope_size : length h.scope ≡ 256
  pub lengths_size : length h.lengths ≡ 64

mark_same : {k k' : ℕ} {c c' a a' s s' l l' : List ℕ} → k ≡ k' → c ≡ c' → a ≡ a' → s ≡ s' → l ≡ l'
    → ◌≡◌ {A = Mark} (record { kept = k; heads = record { counts = c; arity = a; scope = s; lengths = l } })
    (record { kept = k'; heads = record { counts = c'; arity = a'; scope = s'; lengths = l' } })
mark_same e f g h i = cc

-- names whose bytes of one are those of a mark hold it
module _ (m : Mark) (sized : HeadsSized m.heads) (names : List ℕ) (name : ℕ)
    (bytes : (i : ℕ) → i < name_length → get_or names (name_start name + i) 0 ≡ name_byte m i) where
  field : (from n : ℕ) (l : List ℕ) → length l ≡ n → from + n ≤ name_length → ((i : ℕ) → i < n → name_byte m (from + i) ≡ get_or l i 0)
      → bytes_from names (name_start name + from) n ≡ l
  field from n l size fits each =
      sym (listed_is (λ i. get_or names (name_start name + from + i) 0) n l size
      (λ j h.
      let e : name_start name + from + j ≡ name_start name + (from + j) = omega arith in
      sym (ap (λ (k : ℕ). get_or names k 0) e ∙ bytes (from + j) (omega arith) ∙ each j h)))

  mark_held : mark_under names name ≡ m
  mark_held =
      mark_same
      (let e : name_start name ≡ name_start name + 0 = omega arith in ap (λ (k : ℕ). get_or names k 0) e ∙ bytes 0 (omega arith))
      (field 1 32 m.heads.counts sized.counts_size (omega arith) (counts_byte m))
      (field 33 64 m.heads.arity sized.arity_size (omega arith) (arity_byte m))
      (field 97 256 m.heads.scope sized.scope_size (omega arith) (scope_byte m))
      (field 353 64 m.heads.lengths sized.lengths_size (omega arith) (lengths_byte m))

-- A MARK THAT IS WRITTEN under a name
module _ (names : List ℕ) (name : ℕ) (m : Mark) where
  pub with_name_size : length (with_mark_under names name m) ≡ length names
  unfolding with_mark_under
  with_name_size = written_size (name_byte m) (name_start name) name_length names

  module _ (size : length names ≡ names_length) (known : name < 2) where
    own_byte : (i : ℕ) → i < name_length → get_or (with_mark_under names name m) (name_start name + i) 0 ≡ name_byte m i
    unfolding with_mark_under
    own_byte i h = written_in (name_byte m) (name_start name) name_length names (omega arith) i h

    pub under_own : HeadsSized m.heads → mark_under (with_mark_under names name m) name ≡ m
    under_own sized = mark_held m sized (with_mark_under names name m) name own_byte

  -- the other is as it was
  other_byte : (j : ℕ) → (j < name_start name) ⊎ (name_start name + name_length ≤ j) → get_or (with_mark_under names name m) j 0 ≡ get_or names j 0
  unfolding with_mark_under
  other_byte j apart = written_out (name_byte m) (name_start name) name_length names j apart

  module _ (other : ℕ) (apart : other ≡ name → ⊥) where
    outside : (i : ℕ) → i < name_length → (name_start other + i < name_start name) ⊎ (name_start name + name_length ≤ name_start other + i)
    outside i h = ⊎_elim (λ (lt : other < name). inl (omega arith)) (λ (le : name ≤ other). inr (past (eq-or-lt_of_le le))) (lt_or_le other name)
      where
        past : (name ≡ other) ⊎ (name < other) → name_start name + name_length ≤ name_start other + i
        past (inl e) = absurd (apart (sym e))
        past (inr lt) = omega arith

    same_part : (from n : ℕ) → from + n ≤ name_length → bytes_from (with_mark_under names name m) (name_start other + from) n ≡ bytes_from names (name_start other + from) n
    same_part from n fits =
        listed_is (λ i. get_or names (name_start other + from + i) 0) n (bytes_from (with_mark_under names name m) (name_start other + from) n)
        (listed_size (λ i. get_or (with_mark_under names name m) (name_start other + from + i) 0) n)
        (λ j h.
        let e : name_start other + from + j ≡ name_start other + (from + j) = omega arith in
        listed_at (λ i. get_or (with_mark_under names name m) (name_start other + from + i) 0) n j h
        ∙ other_byte (name_start other + from + j) (rw e (outside (from + j) (omega arith))))

    pub under_other : mark_under (with_mark_under names name m) other ≡ mark_under names other
    under_other =
        mark_same
        (other_byte (name_start other) (let e : name_start other ≡ name_start other + 0 = omega arith in rw e (outside 0 (omega arith))))
        (same_part 1 32 (omega arith)) (same_part 33 64 (omega arith)) (same_part 97 256 (omega arith)) (same_part 353 64 (omega arith))

-- NOTHING IS KEPT
fresh_sized : HeadsSized fresh_heads
fresh_sized =
    record { counts_size = (filled 32 0).size; arity_size = (filled 64 0).size; scope_size = (filled 256 255).size; lengths_size = (filled 64 0).size }

abbrev zeros : List ℕ
zeros = replicate names_length 0

zeros_size : length zeros ≡ names_length
zeros_size = (filled names_length 0).size

pub no_names_size : length no_names ≡ names_length
no_names_size = with_name_size (with_mark_under zeros 0 no_mark) 1 no_mark ∙ with_name_size zeros 0 no_mark ∙ zeros_size

pub none_under : (name : ℕ) → name < 2 → mark_under no_names name ≡ no_mark
none_under zero known =
    under_other (with_mark_under zeros 0 no_mark) 1 no_mark 0 (λ e. omega arith) ∙ under_own zeros 0 no_mark zeros_size (omega arith) fresh_sized
none_under (suc zero) known =
    under_own (with_mark_under zeros 0 no_mark) 1 no_mark (with_name_size zeros 0 no_mark ∙ zeros_size) (omega arith) fresh_sized
none_under (suc (suc name)) known = absurd (omega arith)

-- names that were cleared, and then written so
pub forgotten : {old one new : List ℕ} {h h' : Heads} (n : ℕ) → n ≡ names_length → Filled n 0 old → h ≡ fresh_heads
    → one ≡ with_mark_under old 0 (record { kept = 0; heads = h }) → h' ≡ fresh_heads → new ≡ with_mark_under one 1 (record { kept = 0; heads = h' }) → new ≡ no_names
forgotten {old} n size clear f e f' e' =
    let cleared : old ≡ zeros = filled_is n 0 old clear ∙ ap (λ (k : ℕ). replicate k 0) size in
    rw (e', f', e, f, cleared) refl
