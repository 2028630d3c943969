mod AnswerLaws
mod HistoryLaws
mod ShortLines
mod StoreLaws
