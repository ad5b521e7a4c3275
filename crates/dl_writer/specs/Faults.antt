-- Why a call is refused, by a writer and by a book.
use Rattle.dl_writer.specs.declared.fault.LogFault.{LogFault}
use Rattle.dl_writer.specs.declared.fault.LogFault.TheVariants as log
use Rattle.dl_writer.specs.declared.fault.BookFault.{BookFault}
use Rattle.dl_writer.specs.declared.fault.BookFault.TheVariants as book

-- a book hands its writer's refusals on
abbrev pub book_fault : LogFault → BookFault
book_fault log.Foreign = book.Foreign
book_fault log.Spent = book.Spent
