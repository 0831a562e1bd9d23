-- What stands against a book, by number and place.
use Rattle.book.specs.Form.{LENGTH, CONTENTS, SETTINGS, NODE, judged}
use Rattle.names.specs.Names.{NAMES}
use Rattle.book.specs.declared.BookError.{BookError}
use Rattle.book.specs.declared.BookError.TheVariants.{Length, Contents, Settings, Node, Names}
use Rattle.book.specs.declared.Judged.{Judged}

-- the number of what stands against a book, with its place
abbrev pub judged_by : BookError → Judged
judged_by Length = judged LENGTH 0
judged_by Contents = judged CONTENTS 0
judged_by Settings = judged SETTINGS 0
judged_by (Node n) = judged NODE n
judged_by (Names n) = judged NAMES n
