-- The text of a sheet, as the code holds the sheet.
use Rattle.std.specs.Prelude.{ℕ, List}
use Rattle.writing.specs.declared.page.Page.{Page}
use Rattle.writing.specs.Texts.{sheet_text}

abbrev pub page_text : Page → List ℕ
page_text p = sheet_text p.sheet p.rows.now p.items.now
