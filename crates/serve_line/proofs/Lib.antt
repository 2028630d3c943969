mod Clapping
mod FileTasks
mod Lending
mod ReplyRuns
mod ReportTasks
mod ServeEnds
mod Statuses
