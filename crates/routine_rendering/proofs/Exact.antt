-- What is accepted is what a well-formed routine renders to. Assumes nothing.
use mathlib.Core.Path.{◌≡◌, refl, sym, ap, ◌∙◌}
use mathlib.Core.List.{List, [], ◌∷◌, ◌++◌}
use Prim.Native.Nat.{ℕ, ◌+◌, ◌≤◌}
use native.Mathlib.Omega.{arith}
use lib.ListN.{length, drop}
use lib.Seq.{drop-length}
use borrow.Author.Tests.{le-leb, eq-eqb}
use Rattle.routine_header.specs.Header.{first_command}
use Rattle.routine_faults.specs.Inner.Sound.{Fine}
use Rattle.routine.specs.Routine.{Arm}
use Rattle.routine.specs.Decode.{no_counts, routine, decode, check_answer, checked}
use Rattle.routine_rendering.specs.Syntax.{Text, no_more, simple, if_text, Syntax}
use Rattle.routine_rendering.specs.Render.{simple_bytes, text_bytes, render}
use Rattle.routine_rendering.specs.WellFormed.{depth, ifs, reads, writes, access_count, WellFormed}
use Rattle.routine_rendering.specs.Exactly.{AreBytes, Accepted, Rendered, head_of, text_counts, plus, numbered, numbered_commands, Exactly}
use Rattle.routine_header.specs.declared.Header.{Header}
use Rattle.routine_faults.specs.declared.Counts.{Counts}
use Rattle.std.specs.Prelude.{Ok}
use Rattle.routine_command.specs.declared.Mark.{Mark}
use Rattle.routine_faults.proofs.Fine.{fine}
use Rattle.routine.proofs.Views.{onward}
use Rattle.routine.proofs.Decoded.{Whole, decoded}
use Rattle.routine.proofs.Counting.{few-ifs, few-accesses}
use Rattle.routine_rendering.proofs.Bytes.{bytes_left}
use Rattle.routine_rendering.proofs.Heads.{length-sizes, size_from, syntax_of, many_widths, same-told, header-bytes, from_commands, header_read, same_read, read_back}
use Rattle.routine_rendering.proofs.Written.{text, Written, written}
use Rattle.routine_rendering.proofs.Readings.{past, all_read}

-- ---- the bytes of a well-formed routine decode to it

pub rendered_decodes : (p : Syntax) → WellFormed p → decode (render p) ≡ routine (head_of p) (numbered_commands p) (text_counts p)
unfolding render decode
rendered_decodes p w =
    let bs = render p in
    let h = head_of p in
    let t = p.commands in
    let e = header_read bs p (text_bytes t ++ (0 ∷ [])) refl w.variables w.widths (omega (arith, w.parameters)) (omega (arith, w.arrays)) w.sizes in
    let d : 0 + depth t ≤ 8 = omega (arith, w.deep) in
    let i : 0 + ifs t ≤ 32 = omega (arith, w.few-ifs) in
    let a : 0 + 0 + access_count t ≤ 64 = omega (arith, w.few-accesses) in
    let b = from_commands bs p (text_bytes t ++ (0 ∷ [])) refl in
    let s = all_read bs h p (same_read bs p (text_bytes t ++ (0 ∷ [])) refl) (λ v l. (w.widths v l).high) t 0 Mark.End (first_command h) no_counts []
    b w.commands d i a in
    let l = w.short in
    let end = first_command h + length (text_bytes t) + 1 in
    let o = onward bs h 0 Mark.End (first_command h) no_counts (numbered_commands p) end (plus no_counts t) s in
    let q : end ≡ length bs = omega (arith, bytes_left bs end [] (past bs (first_command h) (text_bytes t) 0 [] b)) in
    let i₁ : 0 + ifs t ≡ ifs t = omega arith in
    let r₁ : 0 + reads t ≡ reads t = omega arith in
    let w₁ : 0 + writes t ≡ writes t = omega arith in
    simp (le-leb 1 (length bs) (omega arith), le-leb (length bs) 4096 l, e, s.reads, eq-eqb end (length bs) q)
    (λ j. routine h (numbered_commands p) (record { ifs = i₁ j; reads = r₁ j; writes = w₁ j }))

pub rendered_accepted : (p : Syntax) → WellFormed p → Accepted (render p)
rendered_accepted p w = record { header = head_of p; routine = record { commands = numbered_commands p; counts = text_counts p; decodes = rendered_decodes p w } }

rendered_answered : (p : Syntax) → WellFormed p → checked (render p) ≡ Ok (record { header = head_of p; counts = text_counts p })
unfolding checked
rendered_answered p w = ap check_answer (rendered_decodes p w)

-- ---- what decodes is the bytes of a well-formed routine

module _ (bs : List ℕ) (f : AreBytes bs) (h : Header) (a : Arm) (k : Counts) (e : decode bs ≡ routine h a k) where
  abbrev told : Syntax
  told = syntax_of bs h (text a)

  told-whole : Whole bs h a k
  told-whole = decoded bs h a k e

  told_fine : Fine bs h
  told_fine = fine bs h told-whole.header

  told-written : Written bs told 0 Mark.End (first_command h) no_counts a (length bs) k
  told-written = written bs f h told (same-told bs h told_fine (text a)) a 0 Mark.End (first_command h) no_counts (length bs) k told-whole.stands (omega arith)

  told_same : bs ≡ render told
  unfolding render
  told_same =
      let c : drop (first_command h) bs ≡ text_bytes (text a) ++ (0 ∷ []) = rw drop-length at told-written.bytes in
      rw c at (header-bytes bs h told_fine f told-whole.header (text a))

  told-formed : WellFormed told
  told-formed =
      let g = told_fine in
      let b = told-written in
      let n = many_widths bs h g in
      let m = length-sizes bs (h.variables + 4) h.arrays in
      record {
        variables = rw n (record { low = g.some; high = g.few });
        widths = λ v l. let x = g.widths v (rw n at l) in rw (← (same-told bs h g (text a)).widths v l) (record { low = x.0; high = x.1 });
        parameters = rw n g.parameters;
        arrays = rw m g.arrays;
        sizes = λ i l. let x = g.sizes i (rw m at l) in rw (size_from bs h.arrays (h.variables + 4) i (rw m at l)) (record { low = x.0; high = x.1 });
        commands = b.good;
        deep = omega (arith, b.deep);
        few-ifs = omega (arith, b.counted, few-ifs bs h a k e);
        few-accesses = omega (arith, b.accessed, few-accesses bs h a k e);
        short = rw (← told_same) told-whole.short;
      }

pub accepted_rendered : (bs : List ℕ) → AreBytes bs → (h : Header) (a : Arm) (k : Counts) → decode bs ≡ routine h a k → Rendered bs
accepted_rendered bs f h a k e = record { syntax = told bs f h a k e; formed = told-formed bs f h a k e; same = told_same bs f h a k e }

-- ---- both, and no two well-formed routines have the same bytes

-- the commands of a text are its own
text_of : (t : Text) (at : ℕ) (k : Counts) → text (numbered at k t) ≡ t
unfolding text numbered
text_of no_more at k = refl
text_of (simple c rest) at k = ap (simple c) (text_of rest (at + length (simple_bytes c)) (plus k (simple c no_more)))
text_of (if_text c first second rest) at k =
    let k₁ = plus k (if_text c no_more no_more no_more) in
    let x = text_of first (at + 4) k₁ in
    let y = text_of second (at + 4 + length (text_bytes first) + 1) (plus k₁ first) in
    let z = text_of rest (at + length (text_bytes (if_text c first second no_more))) (plus k (if_text c first second no_more)) in
    λ i. if_text c (x i) (y i) (z i)

back : (p : Syntax) → WellFormed p → syntax_of (render p) (head_of p) p.commands ≡ p
unfolding render
back p w = read_back (render p) p (text_bytes p.commands ++ (0 ∷ [])) refl w.sizes

render-once : (p q : Syntax) → WellFormed p → WellFormed q → render p ≡ render q → p ≡ q
render-once p q v w e =
    let d : routine (head_of p) (numbered_commands p) (text_counts p) ≡ routine (head_of q) (numbered_commands q) (text_counts q) =
    sym (rendered_decodes p v) ∙ ap decode e ∙ rendered_decodes q w in
    let h : head_of p ≡ head_of q = cc in
    let a : numbered_commands p ≡ numbered_commands q = cc in
    let t : p.commands ≡ q.commands = sym (text_of p.commands _ _) ∙ ap text a ∙ text_of q.commands _ _ in
    sym (back p v) ∙ (λ i. syntax_of (e i) (h i) (t i)) ∙ back q w

pub exactly : Exactly
exactly = record {
  accepted = λ bs f. (
    λ a. accepted_rendered bs f a.header a.routine.commands a.routine.counts a.routine.decodes,
    λ r. rw r.same (rendered_accepted r.syntax r.formed),
  );
  decoded = rendered_decodes;
  answered = rendered_answered;
  once = render-once;
}
