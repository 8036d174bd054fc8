-- THE WHOLE SHEET from its parts: the lines of the input, and the last line behind them. Assumes nothing.
use Rattle.std.specs.Prelude.{◌≡◌, refl, Bool, true, false, cond, List, [], ◌∷◌, ◌++◌, ℕ, ◌≤◌, ◌<◌, length, take, drop, ltb}
use Rattle.std.proofs.Common.{sym, ap, ◌∙◌, arith, length-append, take-append-drop, take_at, length-take-le, lt-ltb, le-ltb, Ok, Err, Result}
use Rattle.model.specs.declared.refusal.Refusal.{Refusal}
use Rattle.model.specs.declared.refusal.Refusal.TheVariants as kind
use Rattle.model.specs.Promise.{values_at}
use Rattle.model.specs.Refusals.{number_of}
use Rattle.model.specs.Sheet.{refused_line, end_line, sheet_of, input_most}
use Rattle.sheet_lines.specs.Append.{Appended}
use Rattle.sheet.specs.Promise.{sheet_values, SheetPromise}
use Rattle.sheet.specs.Line.{LineAppended}
use Rattle.sheet.specs.File.{file_lines, input_lines, Lined}
use Rattle.sheet_lines.proofs.Laws.Append.{append_more}
use Rattle.sheet.specs.Bounds.{sheet_most}
use Rattle.model.specs.Numbers as refused

-- the lines of an input that is too long, and of one that is not
module _ (input : List ℕ) {old new : List ℕ} {n : ℕ} where
  -- one that is too long has its refusal's line, and nothing of it is run (SCOPE 7.5)
  pub too_long : input_most < length input → LineAppended (refused_line 0 refused.file_length) 0 old new n → Lined (input_lines input) old new n
  unfolding input_lines
  too_long long line = record { appended = rw (lt-ltb input_most (length input) long) line.appended; most = omega (arith, line.short) }

  pub not_long : length input ≤ input_most → Lined (file_lines input) old new n → Lined (input_lines input) old new n
  unfolding input_lines
  not_long short lined = rw (le-ltb input_most (length input) short) lined

-- bytes that are written at the start
module _ (bytes old new : List ℕ) (n : ℕ) (a : Appended bytes 0 old new n) where
  written_length : n ≡ length bytes
  written_length = omega (arith, a.place)

  written_start : new ≡ bytes ++ drop (length bytes) old
  written_start =
      sym (take-append-drop n new)
      ∙ ap (λ (l : List ℕ). l ++ drop n new) a.written
      ∙ ap (λ (l : List ℕ). bytes ++ l) a.behind
      ∙ ap (λ (k : ℕ). bytes ++ drop k old) written_length

-- the promise where the buffer is too short, and where it is not
module _ (input before : List ℕ) where
  pub sheet_refused : length before < sheet_most → SheetPromise input before (Err kind.BufferLength) before
  sheet_refused short =
      let e = lt-ltb (length before) sheet_most short in
      record { number = rw e refl; values = rw e refl; bytes = rw e refl }

  pub sheet_written : (mid after : List ℕ) (place n : ℕ) → sheet_most ≤ length before → Lined (input_lines input) before mid place → Appended end_line place mid after n
      → SheetPromise input before (Ok n) after
  unfolding input_lines file_lines
  sheet_written mid after place n room lined last =
      let e = le-ltb (length before) sheet_most room in
      let a : Appended (sheet_of input) 0 before after n = append_more lined.appended last in
      record {
        number = rw e refl;
        values = rw e (ap (λ (k : ℕ). k ∷ []) (written_length (sheet_of input) before after n a));
        bytes = rw e (written_start (sheet_of input) before after n a);
      }

head_same : (m n : ℕ) → m ∷ [] ≡ n ∷ [] → m ≡ n
head_same m n e = cc

-- WHAT IS WRITTEN LIES IN THE BUFFER and is the sheet, for whoever calls
module _ {input before : List ℕ} {given : Result ℕ Refusal} {after : List ℕ} (p : SheetPromise input before given after) {n : ℕ} (is : given ≡ Ok n) where
  written : (n ≡ length (sheet_of input)) × (after ≡ sheet_of input ++ drop (length (sheet_of input)) before)
  written = go (ltb (length before) sheet_most) (ap (λ (r : Result ℕ Refusal). number_of r) (sym is) ∙ p.number) (ap sheet_values (sym is) ∙ p.values) p.bytes
    where
      go : (short : Bool) → ◌≡◌ {A = ℕ} 0 (cond short 1 0) → n ∷ [] ≡ values_at (cond short 1 0) (length (sheet_of input) ∷ [])
          → after ≡ cond short before (sheet_of input ++ drop (length (sheet_of input)) before)
          → (n ≡ length (sheet_of input)) × (after ≡ sheet_of input ++ drop (length (sheet_of input)) before)
      go true e v b = absurd (omega arith)
      go false e v b = (head_same n (length (sheet_of input)) v, b)

  pub written_fits : n ≤ length after
  written_fits = omega (arith, written.0, ap length written.1, length-append (sheet_of input) (drop (length (sheet_of input)) before))

  pub written_part : n ≡ length (take n after)
  written_part = sym (length-take-le n after written_fits)

  pub written_bytes : take n after ≡ sheet_of input
  written_bytes =
      ap (take n) written.1 ∙ take_at (sheet_of input) (drop (length (sheet_of input)) before) n (sym written.0)
