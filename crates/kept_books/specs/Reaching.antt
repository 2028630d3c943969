-- What a walk can do: see the laws of books.
pub use Rattle.book_laws.specs.Reaching.{IsPlainReach, HasNoPlainReach}
