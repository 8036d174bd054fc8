-- A post leads from a stored board to the stored board with the rule: the records stay sound, only the new rule may be unstable, and it is pending.
use Rattle.std.specs.Prelude.{◌≡◌, refl, List, true, false, ◌≢◌, ◌⊎◌, ℕ, ◌<◌, length, get_or, replicate}
use Rattle.std.proofs.Common.{sym, ap, ◌∙◌, inl, inr, ⊎_elim, arith, get_or-set_same, get_or-set_other}
use Rattle.std.proofs.Math.Option.{Option, none, some}
use Rattle.std.proofs.lemmas.List.{length-replicate}
use Rattle.layout.specs.declared.value.Heads.{Heads}
use Rattle.layout.specs.declared.value.RuleData.{RuleData}
use Rattle.model.specs.Board.{Rule, Board, InForce, GoodRule, Shape}
use Rattle.model.specs.Records.{Struck, KillerIn, Sound}
use Rattle.model.specs.Ledger.{with_rule}
use Rattle.model.specs.Report.{struck_between, reopened_between}
use Rattle.model.specs.Representation.{rule_or, rule_at, RuleHeld, Stored}
use Rattle.model.proofs.Laws.Tests.{none_some}
use Rattle.model.proofs.Laws.Theory.{active_same}
use Rattle.model.proofs.Laws.Change.{keep_grounded}
use Rattle.model.proofs.Laws.Shapes.{shape_with}
use Rattle.filter_propagate.specs.Rules.{RuleBytes, rules_in, reached}
use Rattle.filter_meaning.specs.Working.{Working}
use Rattle.filter_post.specs.Write.{RuleWritten}
use Rattle.filter_post.specs.Rules.{with_rule_heads}
use Rattle.filter_propagate.specs.Queue.{only_rule}
use Rattle.filter_post.specs.Post.{PostDone}
use Rattle.layout.specs.Places.{cause_of, killer_of}
use Rattle.tables.specs.Laws.Facts.{true_false, eq_or_ne}
use Rattle.filter_propagate.specs.Laws.Kept.{steps_slots, propagated_lost}
use Rattle.filter_meaning.specs.Laws.Counts.{lost_struck, none_reopened}
use Rattle.filter_meaning.specs.Laws.Settled.{at_rest, propagated_stored}
use Rattle.filter_post.specs.Laws.Post.{written_sizes}
use Rattle.filter_post.specs.Laws.Rules.{rule_there, written_rules, written_headed, written_stable}
use Rattle.layout.specs.Sizes.{slots_length}

-- A RULE UNDER A FREE NUMBER
module _ (B : Board) (shape : Shape B) (p : ℕ) (lp : p < 64) (free : get_or B.rules p none ≡ none) (r : Rule) (good : GoodRule B.counts r) where
  post_shape : Shape (with_rule B p (some r))
  post_shape = shape_with B p (some r) shape lp (λ u e. let z : r ≡ u = cc in rw z at good)

  -- a rule in force with it is the rule itself, or was in force
  new_or_old : (q : ℕ) (u : Rule) → InForce (with_rule B p (some r)) q u → ((q ≡ p) × (u ≡ r)) ⊎ ((q ≢ p) × InForce B q u)
  new_or_old q u f =
      ⊎_elim
      (λ (e : q ≡ p).
      let here = get_or-set_same B.rules p (some r) none (omega (arith, shape.numbers)) in
      let g : get_or (with_rule B p (some r)).rules p none ≡ some u = rw e at f in
      inl (e, cc))
      (λ (ne : q ≢ p). inr (ne, sym (get_or-set_other B.rules p q (some r) none ne) ∙ f))
      (eq_or_ne q p)

  still_in_force : (q : ℕ) (u : Rule) → InForce B q u → InForce (with_rule B p (some r)) q u
  still_in_force q u f = get_or-set_other B.rules p q (some r) none (λ e. none_some (sym free ∙ (rw e at f))) ∙ f

  -- the records stay sound, where the rule's rows have no killer
  post_sound : (cause killer : ℕ → ℕ → ℕ) → ((w : ℕ) → w < length r.rows → killer p w ≡ 255) → Sound B cause killer → Sound (with_rule B p (some r)) cause killer
  post_sound cause killer living sound =
      record {
        either = sound.either;
        grounded = λ c s h.
            keep_grounded B (with_rule B p (some r)) cause cause killer killer (λ c s. Unit {0}) (λ c l. l) (λ c s t l. l)
            (λ c s t u f. (refl, still_in_force (cause c s) u f))
            (λ c s t u f w lw hd k. (refl, tt))
            (sound.grounded c s h) tt;
        killers = λ q u f w lw. killed q u w lw (new_or_old q u f);
      }
    where
      killed : (q : ℕ) (u : Rule) (w : ℕ) → w < length u.rows → ((q ≡ p) × (u ≡ r)) ⊎ ((q ≢ p) × InForce B q u)
          → (killer q w ≡ 255) ⊎ KillerIn (with_rule B p (some r)) killer (Struck (with_rule B p (some r)) cause) u q w
      killed q u w lw (inl t) = inl (rw t.0 (living w (rw t.1 at lw)))
      killed q u w lw (inr t) =
          ⊎_elim (λ e. inl e) (λ k. inr (record { column = active_same B (with_rule B p (some r)) u u (killer q w) refl (λ l. l) k.column; member = k.member }))
          (sound.killers q u t.1 w lw)

  -- the number has no rows before
  no_rows : length (rule_at B p).rows ≡ 0
  no_rows = ap (λ (o : Option Rule). length (rule_or o).rows) free

  module _ {rule : RuleData} (held : RuleHeld r rule) (heads : Heads) (rows killers slots : List ℕ)
      (stored : Stored B heads rows killers slots) (R' : RuleBytes) where
    -- the board is at work, with only the new rule pending
    post_working : RuleWritten p rule (rules_in rows heads) R' → Working (with_rule B p (some r)) R' (reached killers slots (only_rule p))
    post_working w =
        let before = at_rest B shape heads rows killers slots stored (only_rule p) in
        record {
          sizes = written_sizes w before.sizes;
          rules = written_rules B shape p lp (some r) (rules_in rows heads) R' held w before.rules;
          sound = post_sound (cause_of slots) (killer_of killers)
              (λ v lv. stored.spare p v lp (omega (arith, good.few)) (omega (arith, no_rows))) before.sound;
          off = stored.off;
          spare = λ q v lq lv le.
              ⊎_elim
              (λ (e : q ≡ p). rw e (stored.spare p v lp lv (omega (arith, no_rows))))
              (λ (ne : q ≢ p). stored.spare q v lq lv (rw (rule_there B shape p lp (some r) q ne) at le))
              (eq_or_ne q p);
          calm = λ q lq e. written_stable w killers slots q (λ z. flagged (rw z at e)) (before.calm q lq e);
        }
      where
        flagged : get_or (only_rule p) p false ≡ false → ⊥
        flagged e = true_false (get_or-set_same (replicate 64 false) p true false (omega (arith, length-replicate 64 false))) e

    -- THE LAW OF A POST
    pub post_stored : {s : ℕ} {killers' slots' : List ℕ} → PostDone p s rule (rules_in rows heads) R' killers killers' slots slots'
        → Stored (with_rule B p (some r)) (with_rule_heads heads R') R'.rows killers' slots'
    post_stored done =
        let work = post_working done.written in
        propagated_stored (with_rule B p (some r)) post_shape (with_rule_heads heads R') R'.rows (reached killers slots (only_rule p)) (reached _ _ done.flags)
        (written_headed B (some r) heads rows stored.headed done.written work.rules) work done.propagated

-- WHAT IT REPORTS: the number is that of the slots open before and struck after, and none is reopened
module _ {p s : ℕ} {rule : RuleData} {killers killers' slots slots' : List ℕ} {R R' : RuleBytes} (size : length slots ≡ slots_length)
    (done : PostDone p s rule R R' killers killers' slots slots') where
  pub post_struck : s ≡ struck_between slots slots'
  post_struck = let only = steps_slots R' done.propagated.steps in propagated_lost R' done.propagated ∙ lost_struck slots slots' size (only.len ∙ size)

  pub post_reopened : reopened_between slots slots' ≡ 0
  post_reopened = let only = steps_slots R' done.propagated.steps in none_reopened slots slots' size (only.len ∙ size) only
