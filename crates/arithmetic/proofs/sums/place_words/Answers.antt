use mathlib.Core.Path.{refl}
use Rattle.cnf.proofs.Appending.{no_starts, words_alone}
use Rattle.netlist.proofs.Emitting.{nodes_then_lem}
use Rattle.netlist.proofs.Nodes.{node_sized, sized_then}
use Rattle.netlist.specs.declared.Node.TheVariants.{Xor}
use Rattle.arithmetic.proofs.sums.place_words.Goals as goal

pub returns : goal.returns
returns c =
    words_alone
    (nodes_then_lem _ _ (nodes_then_lem _ _ (no_starts 0 c.xor_words.ensures) (node_sized (Xor _ _)) (no_starts 4 c.xor_words-2.ensures) refl refl refl)
    (sized_then (node_sized (Xor _ _)) (node_sized (Xor _ _)) refl refl refl) (no_starts 8 c.maj_words.ensures) refl refl refl)
