-- What is refused of the lines in front, or of the line that is not ASCII.
use Rattle.std.proofs.Common.{◌≡◌, ◌∙◌, ℕ, List, Option, map, ap, sym, subst, Bor}
use Rattle.smv_tree.specs.declared.refusal.Refusal.{Refusal}
use Rattle.cert_text.specs.Reading.{lines_of}
use Rattle.trace_replay.specs.declared.source.Line.{Line}
use Rattle.trace_replay.specs.Reading.{Holds, IsLinesStop, IsRefusedAt, texts}
use Rattle.smv_recheck.specs.Cutting.{IsCutAt}
use Rattle.smv_recheck.specs.Lines.{trace_lines, trace_lines_from}
use Rattle.smv_recheck.proofs.CutLines.{cut_refused, cut_stopped}
use Rattle.smv_recheck.proofs.trace_lines.read_traces.Goals as goal

-- the lines of the text
whole : (text : List ℕ) (lines all : List (Bor (List ℕ))) → lines ≡ all → map (λ (x : Bor (List ℕ)). x.now) all ≡ lines_of text → trace_lines_from 1 (map (λ (x : Bor (List ℕ)). x.now) lines) ≡ trace_lines text
whole text lines all same of = ap (λ (ls : List (Bor (List ℕ))). trace_lines_from 1 (map (λ (x : Bor (List ℕ)). x.now) ls)) same ∙ ap (trace_lines_from 1) of

pub returns-in-Err-clause-refused : goal.returns-in-Err-clause-refused
returns-in-Err-clause-refused c =
    let text = c.args.text.now in
    let front = c.in_ok-cut.cut.lines.items in
    let broken = c.in_ok-cut.cut.broken in
    let lines = whole text c.deref.result.now c.in_ok-all.all.items c.deref.ensures.value c.in_ok-all.ensures in
    let cut = subst (λ (ls : List Line). IsCutAt ls front broken) lines c.in_ok-cut.ensures in
    let stopped = subst (λ (ls : List Line). IsLinesStop c.args.specs ls c.in-Err.stop) c.deref-2.ensures.value c.in-Err.ensures.refused in
    cut_stopped c.args.specs (trace_lines text) front broken c.in-Err.stop cut stopped

pub returns-clause-refused : goal.returns-clause-refused
returns-clause-refused c =
    let text = c.args.text.now in
    let front = c.in_ok-cut.cut.lines.items in
    let lines = whole text c.deref.result.now c.in_ok-all.all.items c.deref.ensures.value c.in_ok-all.ensures in
    let cut = subst (λ (o : Option ℕ). IsCutAt (trace_lines text) front o) c.in-Some.is (subst (λ (ls : List Line). IsCutAt ls front c.in_ok-cut.cut.broken) lines c.in_ok-cut.ensures) in
    let held = subst (λ (ls : List Line). Holds c.args.specs (texts ls) c.in-Ok.traces) c.deref-2.ensures.value c.in-Ok.ensures.held in
    subst (λ (r : Refusal). IsRefusedAt c.args.specs (trace_lines text) r) (sym c.refused.ensures) (cut_refused c.args.specs (trace_lines text) front c.in-Some.line c.in-Ok.traces cut held)
