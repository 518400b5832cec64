-- What a row or an item holds when it holds nothing.
use Rattle.model.specs.declared.rows.Row.{Row}
use Rattle.model.specs.declared.rows.Item.{Item}

abbrev pub blank_row : Row
blank_row = record { left = 0; right = record { bits = 0 } }

abbrev pub blank_item : Item
blank_item = record { name = 0; child = 0; next = 0 }
