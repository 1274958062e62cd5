use Rattle.slices.proofs.Used.{used-length, used-short}
use Rattle.report_judgement.proofs.Demanded.{demand}
use Rattle.report.proofs.Zeroes.{judged_over}
use Rattle.report.proofs.judge.Goals as goal

pub slice_bounds-judge_parts-end-2 : goal.slice_bounds-judge_parts-end-2
slice_bounds-judge_parts-end-2 c = used-length c.args.words.now _ c.usable-w.ensures

pub slice_bounds-judge_parts-end-4 : goal.slice_bounds-judge_parts-end-4
slice_bounds-judge_parts-end-4 c = used-length c.args.starts.now _ c.usable-s.ensures

pub slice_bounds-judge_parts-end-6 : goal.slice_bounds-judge_parts-end-6
slice_bounds-judge_parts-end-6 c = used-length c.args.marks.now _ c.usable-m.ensures

pub slice_bounds-judge_parts-end-8 : goal.slice_bounds-judge_parts-end-8
slice_bounds-judge_parts-end-8 c = used-length c.args.values.now _ c.usable-v.ensures

pub slice_bounds-judge_parts-end-10 : goal.slice_bounds-judge_parts-end-10
slice_bounds-judge_parts-end-10 c = used-length c.args.trail.now _ c.usable-t.ensures

pub judge_parts-requires : goal.judge_parts-requires
judge_parts-requires c = (used-short c.args.words.now _ c.usable-w.ensures, used-short c.args.starts.now _ c.usable-s.ensures)

pub returns : goal.returns
returns c =
    let j =
    judged_over c.args.routine.now c.args.report.now c.args.words.now c.args.starts.now c.args.marks.now c.args.values.now c.args.trail.now _ _ _ _ _
    c.usable-w.ensures c.usable-s.ensures c.usable-m.ensures c.usable-v.ensures c.usable-t.ensures
    c.judge_parts.new.words c.judge_parts.new.starts c.judge_parts.new.marks c.judge_parts.new.values c.judge_parts.new.trail c.judge_parts.result c.judge_parts.ensures in
    record { judges = j; demand3 = demand c.args.routine.now c.args.report.now _ c.judge_parts.result j.answer }
