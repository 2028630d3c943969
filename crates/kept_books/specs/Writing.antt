-- Symbols that transactions write: see the laws of books.
pub use Rattle.book_laws.specs.Writing.{amounts_in, symbols_in, symbols_at, symbols_written, AreSymbolsOf}
