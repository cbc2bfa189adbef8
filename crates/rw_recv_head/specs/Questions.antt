-- What the lock and the seats know of what a head was asked.
use Rattle.std.specs.Prelude.{[]}
use Rattle.std.specs.FinMap.{empty}
use Rattle.rw_types.specs.declared.names.Names.TheVariants.{Legacy}
use Rattle.rw_head.specs.Capacity.{unlimited}
use Rattle.rw_head.specs.Head.{State as Head}
use Rattle.rw_recv_head.specs.Seats.{HeadTable}

-- the name of no table
abbrev pub no_table : HeadTable
no_table = record {
  id = record { words = 0; slots = 0; views_name = 0; atom = 0; block = 0; offset = 0; slot_names = [] };
  capacity = unlimited;
}

-- no head in particular
abbrev pub no_head : Head
no_head = record { store = empty; limits = record { names = Legacy; max_labels = 0; max_label_bytes = 0 }; busy = 0 }
