mod Replied
