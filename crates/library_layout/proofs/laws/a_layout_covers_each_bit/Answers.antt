use Rattle.library_read.specs.Libraries.{library_of}
use Rattle.library_layout.proofs.LayoutLemmas.{covers}
use Rattle.library_layout.proofs.laws.a_layout_covers_each_bit.Goals as goal

pub returns : goal.returns
returns c library tag text laid = covers c.clean_rows_cover_each_bit_once.ensures c.rows_name_clashes.ensures (library_of library).graph tag text laid
