use Rattle.std.proofs.Common.{◌≡◌, ◌++◌, ◌∷◌, take}
use Rattle.std.specs.List.{flat_map}
use Rattle.spin_grammar.specs.Lines.{Barrier}
use Rattle.spin_script.specs.Canonical.{text_of_lines, segment_lines}
use Rattle.spin_script.proofs.write.put_later_segments.Given as goal

abbrev pub invariant-loop-segment : goal.invariant-loop-segment
invariant-loop-segment l = l.out ≡ l.fn.out ++ text_of_lines (flat_map (λ s. Barrier ∷ segment_lines l.version s) (take l.segment-index l.segments))
