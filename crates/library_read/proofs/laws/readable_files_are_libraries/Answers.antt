use Rattle.library_read.proofs.LibraryLemmas.{file-library}
use Rattle.library_read.proofs.laws.readable_files_are_libraries.Goals as goal

pub returns : goal.returns
returns c = file-library c.the_nodes_stand_for_the_reached.ensures c.the_nodes_are_a_graph.ensures c.a_section_is_in_order.ensures.ordered c.symbols_fill_their_table.ensures.whole c.symbols_fill_their_table.ensures.numbered c.shapes_change_calls_alone.ensures c.given_calls_have_places.ensures
