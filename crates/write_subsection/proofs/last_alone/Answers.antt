-- The sections of the bytes from eight before the place on, and their refusal moved.
use mathlib.Core.Path.{sym, ◌∙◌}
use mathlib.Core.Bool.{false}
use mathlib.Core.List.{[]}
use Prim.Native.Nat.{◌-◌}
use native.Mathlib.Omega.{arith}
use lib.ListN.{drop, length-drop}
use Rattle.format.specs.Parts.{external}
use Rattle.format.specs.Reading.{id_of}
use Rattle.format.proofs.Turns.{sections_from}
use Rattle.write_subsection.proofs.Moving.{moved_refused, moved_found, refused_within, read_alone}
use Rattle.write_subsection.proofs.last_alone.Goals as goal

pub overflow_add-result : goal.overflow_add-result
overflow_add-result c =
    let s = c.args.s.now in
    let p = c.args.place in
    let h = c.requires in
    let e = c.sections_of-answer.ensures ∙ read_alone s p h.0 h.1 in
    let w = refused_within (external (id_of s)) (drop p s) (sym c.in-Err.is ∙ e) in
    let l = length-drop p s in
    omega arith

pub returns-in_default : goal.returns-in_default
returns-in_default c =
    let s = c.args.s.now in
    let p = c.args.place in
    let e = c.sections_of-answer.ensures ∙ read_alone s p c.requires.0 c.requires.1 in
    c.in_default.is ∙ moved_found (p - 8) (sections_from false (external (id_of s)) [] 8 (drop p s)) (sym c.in_default.is ∙ e)

pub returns : goal.returns
returns c =
    let s = c.args.s.now in
    let p = c.args.place in
    let e = c.sections_of-answer.ensures ∙ read_alone s p c.requires.0 c.requires.1 in
    moved_refused (p - 8) (sections_from false (external (id_of s)) [] 8 (drop p s)) (sym c.in-Err.is ∙ e)
