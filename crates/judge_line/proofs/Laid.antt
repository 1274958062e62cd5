-- Bytes that are put one after the other are put together. Assumes nothing.
use Prim.Native.Nat.{ℕ, suc, ◌+◌, ◌≤◌}
use native.Mathlib.Nat.{add_assoc, add-zero}
use mathlib.Core.Path.{◌≡◌, refl, sym, ap, subst, ◌∙◌}
use mathlib.Core.List.{List, [], ◌∷◌, ◌++◌, append_assoc}
use lib.ListN.{length, length-append, take, drop}
use lib.Seq.{sets, sets-eq}
use borrow.Rule.Slice.PartMut.{put_mid}
use Rattle.std.proofs.lemmas.List.Edits.{paste_all}
use Rattle.std.proofs.lemmas.Slice.{put_mid-paste}
use native.Mathlib.Omega.{arith}
use Rattle.judge_line.specs.declared.line.Line.{Line}
use Rattle.judge_line.specs.Inner.Appends.{Appends}
use Rattle.judge_line.specs.Writes.{Writes}

-- laying one text after the other
sets_append : (out : List ℕ) (at : ℕ) (a b : List ℕ) → sets (sets out at a) (at + length a) b ≡ sets out at (a ++ b)
sets_append out at [] b = ap (λ (i : ℕ). sets out i b) (add-zero at)
sets_append out at (x ∷ a) b = ap (λ (i : ℕ). sets (sets out at (x ∷ a)) i b) (omega arith) ∙ sets_append _ (suc at) a b

-- one text, then another
pub onward : {out out₁ out₂ a b : List ℕ} {at next₁ next₂ : ℕ} → Writes out at a out₁ next₁ → Writes out₁ next₁ b out₂ next₂
    → Writes out at (a ++ b) out₂ next₂
onward {out} {out₁} {out₂} {a} {b} {at} {next₁} p q = record {
  laid = q.laid ∙ ap (λ (o : List ℕ). sets o next₁ b) p.laid ∙ ap (λ (i : ℕ). sets (sets out at a) i b) p.ends ∙ sets_append out at a b;
  ends = q.ends ∙ ap (λ (i : ℕ). i + length b) p.ends ∙ add_assoc at (length a) (length b) ∙ ap (λ (i : ℕ). at + i) (sym (length-append a b));
}

-- a text that is copied over a part of the buffer
pub copied : (out : List ℕ) (at k : ℕ) (part text : List ℕ) → part ≡ text → k ≡ length text → at + length text ≤ length out → put_mid at k out part ≡ sets out at text
copied out at k part text e f h =
    put_mid-paste at k out part text (length text) e (sym f) refl ∙ paste_all out at text (length text) refl
    ∙ sym (append_assoc (take at out) text (drop (at + length text) out)) ∙ sym (sets-eq text out at h)

-- the same bytes, said another way
pub said : {out out₁ a b : List ℕ} {at next : ℕ} → Writes out at a out₁ next → a ≡ b → Writes out at b out₁ next
said {out} {out₁} {a} {b} {at} {next} p e = subst (λ (x : List ℕ). Writes out at x out₁ next) e p

-- one text on the line, then another
pub appended : {line line₁ line₂ : Line} {a b : List ℕ} → Appends line a line₁ → Appends line₁ b line₂ → Appends line (a ++ b) line₂
appended p q = record { buffer = q.buffer ∙ p.buffer; size = q.size ∙ p.size; writes = onward p.writes q.writes }

-- the same bytes on the line, said another way
pub meant : {line line₁ : Line} {a b : List ℕ} → Appends line a line₁ → a ≡ b → Appends line b line₁
meant {line} {line₁} p e = subst (λ (x : List ℕ). Appends line x line₁) e p
