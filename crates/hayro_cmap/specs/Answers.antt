-- What a caller's function and a bundle answer, by name.
pub use Rattle.cmap_load.specs.Answers.{Answers, AnswersByName, IsByName, embedded, stored, unless_absent}
