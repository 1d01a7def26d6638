mod Behinds
mod Ends
